use Rattle.std.proofs.Common.{sym}
use Rattle.ei_request.specs.Held.{is_seat, released}
use Rattle.ei_request.proofs.FirstOnes.{changed_here, none_here, changed_none}
use Rattle.ei_request.proofs.holding.release_seat.Goals as goal

pub returns-in-Some : goal.returns-in-Some
returns-in-Some c = changed_here (is_seat c.args.id) (released) c.args.seats.now.items c.deref.result.now c.seat_place.result c.in-Some.at c.index_mut.result.now c.release.new.self c.deref.ensures.value c.seat_place.ensures c.in-Some.is c.index_mut.ensures.value c.release.ensures

pub returns-in_default : goal.returns-in_default
returns-in_default c = sym (changed_none _ _ _ (none_here (is_seat c.args.id) c.args.seats.now.items c.deref.result.now c.seat_place.result c.deref.ensures.value c.seat_place.ensures c.in_default.is))
