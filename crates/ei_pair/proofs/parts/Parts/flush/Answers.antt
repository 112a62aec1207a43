-- Bytes go: the pair is as before but for its ends.
use Rattle.ei_pair.specs.Parts.{PartsView, pair_in}
use Rattle.std.proofs.Common.{subst, sym, ap, ◌∙◌}
use Rattle.ei_linked.specs.TwoEnds.{IsWorld}
use Rattle.ei_pair.proofs.MovedOn.{went, stayed, went_sound}
use Rattle.ei_pair.proofs.parts.Parts.flush.Goals as goal

pub flush-requires : goal.flush-requires
flush-requires g c =
    let i = c.self.inside in
    let v : PartsView g.row.H.Denot = record { ends = i.ends; asks = i.asks; tells = i.tells; converter = i.converter; serial = i.initial_serial; steady = i.steady; client_wanted = i.client_wanted; server_wanted = i.server_wanted } in
    record { world = subst (λ (x : PartsView g.row.H.Denot). IsWorld (pair_in x).ends) (sym c.self.view_is) c.requires.sound.kept.pair.world; whole = ap (λ (x : PartsView g.row.H.Denot). x.ends.spent) c.self.view_is ∙ c.requires.whole }

pub returns-clause-ok : goal.returns-clause-ok
returns-clause-ok g c =
    let i = c.self.inside in
    let v : PartsView g.row.H.Denot = record { ends = i.ends; asks = i.asks; tells = i.tells; converter = i.converter; serial = i.initial_serial; steady = i.steady; client_wanted = i.client_wanted; server_wanted = i.server_wanted } in
    went v c.args.self.now c.self.view_is c.flush.new.self c.flush.ensures.keeps c.args.side c.flush.result c.flush.ensures.ok

pub returns-clause-err : goal.returns-clause-err
returns-clause-err g c =
    let i = c.self.inside in
    let v : PartsView g.row.H.Denot = record { ends = i.ends; asks = i.asks; tells = i.tells; converter = i.converter; serial = i.initial_serial; steady = i.steady; client_wanted = i.client_wanted; server_wanted = i.server_wanted } in
    stayed v c.args.self.now c.self.view_is c.flush.new.self c.flush.ensures.keeps c.flush.result c.flush.ensures.err

pub returns-clause-sound : goal.returns-clause-sound
returns-clause-sound g c =
    let i = c.self.inside in
    let v : PartsView g.row.H.Denot = record { ends = i.ends; asks = i.asks; tells = i.tells; converter = i.converter; serial = i.initial_serial; steady = i.steady; client_wanted = i.client_wanted; server_wanted = i.server_wanted } in
    went_sound v c.args.self.now c.self.view_is c.flush.new.self c.flush.ensures.keeps c.resting.ensures.moves c.requires.sound c.requires.whole c.flush.ensures.world c.resting.ensures.flushes c.args.side c.flush.result c.flush.ensures.ok c.flush.ensures.err
