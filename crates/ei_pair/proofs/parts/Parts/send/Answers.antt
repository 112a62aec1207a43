use Rattle.ei_linked.specs.declared.side.Side.TheVariants as side
use Rattle.ei_pair.specs.Parts.{PartsView, pair_in}
use Rattle.ei_pair.proofs.TellingAt.{may_send_at, may_ask_at, world_at, whole_at, sent_as, unsent_as}
use Rattle.ei_pair.proofs.parts.Parts.send.Goals as goal
use Rattle.ei_pair.proofs.parts.Parts.send.Goals.{in-Ok+in-Some+in-Other-1, in-Ok+in-Some+in-Known-1, in-Ok+in-None-1, in-Err}

pub of-target-requires : goal.of-target-requires
of-target-requires g c = (may_send_at c.args.target.now c.args.opcode c.args.values (pair_in c.args.self.now).ends (pair_in c.args.self.now).server c.requires.may).known

pub call-requires : goal.call-requires
call-requires g c =
    let v : PartsView g.row.H.Denot = record { ends = c.self.inside.ends; asks = c.self.inside.asks; tells = c.self.inside.tells; converter = c.self.inside.converter; serial = c.self.inside.initial_serial; steady = c.self.inside.steady; client_wanted = c.self.inside.client_wanted; server_wanted = c.self.inside.server_wanted } in
    record {
      world = world_at v c.args.self.now c.self.view_is c.requires.sound c.requires.whole;
      whole = whole_at v c.args.self.now c.self.view_is c.requires.sound c.requires.whole;
      may = may_ask_at v c.args.self.now c.self.view_is c.requires.sound c.requires.whole side.Server c.args.target.now c.of-target.result c.args.opcode c.args.values.now c.of-target.ensures
          (may_send_at c.args.target.now c.args.opcode c.args.values (pair_in c.args.self.now).ends (pair_in c.args.self.now).server c.requires.may);
    }

pub returns : goal.returns
returns g c =
    let v : PartsView g.row.H.Denot = record { ends = c.self.inside.ends; asks = c.self.inside.asks; tells = c.self.inside.tells; converter = c.self.inside.converter; serial = c.self.inside.initial_serial; steady = c.self.inside.steady; client_wanted = c.self.inside.client_wanted; server_wanted = c.self.inside.server_wanted } in
    let sent = sent_as v c.args.self.now c.self.view_is c.requires.sound c.requires.whole c.args.target.now c.of-target.result c.of-target.ensures c.args.opcode c.args.values c.call.new.self c.call.ensures.keeps c.call.ensures.world c.requires.may c.match-call.result c.doing.ensures.server in
    elim c.match-call.branch [
      | in-Ok+in-Some+in-Other-1 w ↦ sent w.in-Ok._object w.result-is w.in-Ok.ensures.calls
      | in-Ok+in-Some+in-Known-1 w ↦ sent w.in-Ok._object w.result-is w.in-Ok.ensures.calls
      | in-Ok+in-None-1 w ↦ sent w.in-Ok._object w.result-is w.in-Ok.ensures.calls
      | in-Err w ↦ unsent_as v c.args.self.now c.self.view_is c.requires.sound c.requires.whole c.args.target.now c.of-target.result c.of-target.ensures c.args.opcode c.args.values c.call.new.self c.call.ensures.keeps c.call.ensures.world c.requires.may c.match-call.result w.in-Err.error w.result-is w.in-Err.ensures.calls
    ]
