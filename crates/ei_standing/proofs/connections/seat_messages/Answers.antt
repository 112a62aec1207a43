use Rattle.ei_standing.proofs.SeatReleased.{after_seat_release}
use Rattle.ei_standing.proofs.SeatAsked.{after_empty}
use Rattle.ei_standing.proofs.connections.seat_messages.Goals as goal

pub returns : goal.returns
returns c = record {
  released = λ setup past m readings c e time h k a. after_seat_release setup past m readings c e time h k a;
  empty = λ setup past m readings c e x time h k a is. after_empty setup past m readings c e h k x time a is;
}
