use Rattle.ei_session.proofs.KeptByRequests.{seat_left, seat_shut, seat_serial, seat_reply}
use Rattle.ei_session.proofs.kinds_of_messages.seat_released.Goals as goal

pub returns : goal.returns
returns c = record {
  left = λ past m d on at r. seat_left past m on at r d;
  shut = seat_shut;
  serial = seat_serial;
  reply = seat_reply;
}
