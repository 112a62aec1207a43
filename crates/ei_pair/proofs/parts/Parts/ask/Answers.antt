use Rattle.ei_linked.specs.declared.side.Side.TheVariants as side
use Rattle.ei_pair.specs.Parts.{PartsView}
use Rattle.ei_pair.proofs.TellingAt.{may_ask_at, world_at, whole_at, asked_at}
use Rattle.ei_pair.proofs.parts.Parts.ask.Goals as goal

pub of-target-requires : goal.of-target-requires
of-target-requires g c = c.requires.may.known

pub call-requires : goal.call-requires
call-requires g c =
    let v : PartsView g.row.H.Denot = record { ends = c.self.inside.ends; asks = c.self.inside.asks; tells = c.self.inside.tells; converter = c.self.inside.converter; serial = c.self.inside.initial_serial; steady = c.self.inside.steady; client_wanted = c.self.inside.client_wanted; server_wanted = c.self.inside.server_wanted } in
    record {
      world = world_at v c.args.self.now c.self.view_is c.requires.sound c.requires.whole;
      whole = whole_at v c.args.self.now c.self.view_is c.requires.sound c.requires.whole;
      may = may_ask_at v c.args.self.now c.self.view_is c.requires.sound c.requires.whole side.Client c.args.target.now c.of-target.result c.args.opcode c.args.values.now c.of-target.ensures c.requires.may;
    }

pub returns : goal.returns
returns g c =
    let v : PartsView g.row.H.Denot = record { ends = c.self.inside.ends; asks = c.self.inside.asks; tells = c.self.inside.tells; converter = c.self.inside.converter; serial = c.self.inside.initial_serial; steady = c.self.inside.steady; client_wanted = c.self.inside.client_wanted; server_wanted = c.self.inside.server_wanted } in
    asked_at v c.args.self.now c.self.view_is c.requires.sound c.requires.whole c.args.target.now c.of-target.result c.of-target.ensures c.args.opcode c.call.result c.call.new.self c.call.ensures.keeps c.call.ensures.world c.doing.ensures.client c.args.values.now c.requires.done c.call.ensures.calls
