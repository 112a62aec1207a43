use Rattle.std.proofs.Common.{sym, ◌∙◌}
use Rattle.ei_request.specs.Held.{is_seat}
use Rattle.ei_request.proofs.FirstOnes.{removed_here, none_here, unremoved}
use Rattle.ei_request.proofs.holding.take_out_seat.Goals as goal

pub returns-in-Some : goal.returns-in-Some
returns-in-Some c = c.remove.ensures.items ∙ removed_here (is_seat c.args.id) c.args.seats.now.items c.deref.result.now c.seat_place.result c.in-Some.at c.remove.result c.deref.ensures.value c.seat_place.ensures c.in-Some.is

pub returns-in_default : goal.returns-in_default
returns-in_default c = sym (unremoved (is_seat c.args.id) _ (none_here (is_seat c.args.id) c.args.seats.now.items c.deref.result.now c.seat_place.result c.deref.ensures.value c.seat_place.ensures c.in_default.is))
