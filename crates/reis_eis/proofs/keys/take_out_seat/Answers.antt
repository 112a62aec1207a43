use Rattle.std.proofs.Common.{sym, ◌∙◌}
use Rattle.reis_eis.specs.Keys.{names_seat}
use Rattle.ei_request.proofs.FirstOnes.{removed_here, none_here, unremoved}
use Rattle.reis_eis.proofs.keys.take_out_seat.Goals as goal

pub returns-in-Some : goal.returns-in-Some
returns-in-Some c = c.remove.ensures.items ∙ removed_here (names_seat c.args.id) c.args.seats.now.items c.deref.result.now c.seat_place.result c.in-Some.at c.remove.result c.deref.ensures.value c.seat_place.ensures c.in-Some.is

pub returns-in_default : goal.returns-in_default
returns-in_default c = sym (unremoved (names_seat c.args.id) _ (none_here (names_seat c.args.id) c.args.seats.now.items c.deref.result.now c.seat_place.result c.deref.ensures.value c.seat_place.ensures c.in_default.is))
