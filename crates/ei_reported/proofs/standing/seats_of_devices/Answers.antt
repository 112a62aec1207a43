use Rattle.ei_reported.proofs.AfterEachKind.{seat_of_comes, seat_of_refused, other_seat_of, seat_of_typed, seat_of_done, seat_of_goes}
use Rattle.ei_reported.proofs.AfterEachKind.{pending_has_seat, added_has_seat}
use Rattle.ei_reported.proofs.OneThing.{seat_of_kept}
use Rattle.ei_reported.proofs.standing.seats_of_devices.Goals as goal

pub returns : goal.returns
returns c = record {
  comes = λ before seat device h id. seat_of_comes before seat device id h;
  refused = λ before seat device h id. seat_of_refused before seat device id h;
  other = λ before m h id. other_seat_of before m id h;
  typed = seat_of_typed;
  done = seat_of_done;
  goes = seat_of_goes;
  pending = pending_has_seat;
  added = added_has_seat;
  kept = seat_of_kept;
}
