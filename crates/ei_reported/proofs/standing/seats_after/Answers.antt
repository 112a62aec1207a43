use Rattle.ei_reported.proofs.AfterEachKind.{pending_comes, pending_done, pending_goes, added_done, added_refused, added_goes, added_comes}
use Rattle.ei_reported.proofs.AfterEachKind.{other_seat_pending, other_seat_added}
use Rattle.ei_reported.proofs.standing.seats_after.Goals as goal

pub returns : goal.returns
returns c = record {
  comes = pending_comes;
  done = pending_done;
  goes = pending_goes;
  added = λ before seat h id. added_done before seat id h;
  refused = λ before seat h id. added_refused before seat id h;
  removed = added_goes;
  came = added_comes;
  other_pending = λ before m h id. other_seat_pending before m id h;
  other_added = λ before m h id. other_seat_added before m id h;
}
