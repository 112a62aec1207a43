use Rattle.ei_pair.specs.Parts.{PartsView, pair_in}
use Rattle.ei_pair.specs.Calls.{steady_after}
use Rattle.ei_pair.proofs.Meeting.{named_at}
use Rattle.ei_pair.proofs.TellingAt.{made_steady}
use Rattle.ei_pair.proofs.parts.Parts.server_do.Goals as goal

pub is_steady-steady-requires : goal.is_steady-steady-requires
is_steady-steady-requires g c = record { named = named_at c.args.call (pair_in c.args.self.now).ends (pair_in c.args.self.now).server c.requires.may }

pub returns-in-Ok : goal.returns-in-Ok
returns-in-Ok g c =
    let v : PartsView g.row.H.Denot = record { ends = c.self.inside.ends; asks = c.self.inside.asks; tells = c.self.inside.tells; converter = c.self.inside.converter; serial = c.self.inside.initial_serial; steady = c.self.inside.steady; client_wanted = c.self.inside.client_wanted; server_wanted = c.self.inside.server_wanted } in
    made_steady c.args.call c.args.self.now v c.serve.new.self c.in-Ok.made c.is_steady-steady.result (steady_after c.args.self.now.steady c.args.call (pair_in c.args.self.now).server) c.self.view_is c.is_steady-steady.ensures c.in-Ok.ensures

pub returns-in-Err : goal.returns-in-Err
returns-in-Err g c = c.in-Err.ensures
