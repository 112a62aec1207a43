use Rattle.std.proofs.Common.{sym, subst}
use Rattle.ei_pair.specs.Parts.{PartsView}
use Rattle.ei_pair.specs.Calls.{MayMakeAt}
use Rattle.ei_pair.proofs.TellingAt.{refused_at, stored_as, unstored_as}
use Rattle.ei_pair.proofs.parts.Parts.tell.Goals as goal
use Rattle.ei_pair.proofs.parts.Parts.tell.Goals.{in-Ok-store_server, in-Err-store_server+in-Seat+in-Other-1, in-Err-store_server+in-Seat+in-Known-1, in-Err-store_server+in-Device+in-Other-1, in-Err-store_server+in-Device+in-Known-1, in-Err-store_server+in-Nothing-1}

pub make_on-requires : goal.make_on-requires
make_on-requires g c = record { may = subst (λ (p : PartsView g.row.H.Denot). MayMakeAt c.args.call p.ends.server.context) (sym c.self.view_is) c.requires.may }

pub returns-after-store_server : goal.returns-after-store_server
returns-after-store_server g c =
    let v : PartsView g.row.H.Denot = record { ends = c.self.inside.ends; asks = c.self.inside.asks; tells = c.self.inside.tells; converter = c.self.inside.converter; serial = c.self.inside.initial_serial; steady = c.self.inside.steady; client_wanted = c.self.inside.client_wanted; server_wanted = c.self.inside.server_wanted } in
    let made = c.in-Ok.ensures in
    let spent = unstored_as v c.args.self.now c.self.view_is c.args.call c.requires.sound c.requires.whole c.requires.may c.read.ensures c.make_on.new.ends c.in-Ok.made made.answers made.kept c.resting.ensures.spent c.store_server.new.ends c.match-store_server.result in
    elim c.match-store_server.branch [
      | in-Ok-store_server w ↦ stored_as v c.args.self.now c.self.view_is c.args.call c.requires.sound c.requires.whole c.requires.may c.read.ensures c.make_on.new.ends c.in-Ok.made made.answers made.kept c.doing.ensures.server c.store_server.new.ends c.unsent_at-before.result c.unsent_at-before.ensures c.match-store_server.result w.result-is w.in-Ok-store_server.ensures.stores
      | in-Err-store_server+in-Seat+in-Other-1 w ↦ spent w.result-is w.in-Err-store_server.ensures.err
      | in-Err-store_server+in-Seat+in-Known-1 w ↦ spent w.result-is w.in-Err-store_server.ensures.err
      | in-Err-store_server+in-Device+in-Other-1 w ↦ spent w.result-is w.in-Err-store_server.ensures.err
      | in-Err-store_server+in-Device+in-Known-1 w ↦ spent w.result-is w.in-Err-store_server.ensures.err
      | in-Err-store_server+in-Nothing-1 w ↦ spent w.result-is w.in-Err-store_server.ensures.err
    ]

pub returns-in-Err : goal.returns-in-Err
returns-in-Err g c =
    let v : PartsView g.row.H.Denot = record { ends = c.self.inside.ends; asks = c.self.inside.asks; tells = c.self.inside.tells; converter = c.self.inside.converter; serial = c.self.inside.initial_serial; steady = c.self.inside.steady; client_wanted = c.self.inside.client_wanted; server_wanted = c.self.inside.server_wanted } in
    let refused = c.in-Err.ensures in
    refused_at v c.args.self.now c.self.view_is c.args.call c.requires.sound c.requires.whole c.requires.may c.make_on.new.ends c.in-Err.error refused.answers refused.kept refused.exhausted refused.long
