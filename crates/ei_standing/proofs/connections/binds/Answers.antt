use Rattle.ei_standing.proofs.SeatAsked.{bind_queued, request_device_queued, seat_stays, after_last}
use Rattle.ei_standing.proofs.BoundDevices.{added_held, after_bind, after_exhausted}
use Rattle.ei_standing.proofs.connections.binds.Goals as goal

pub returns : goal.returns
returns c = record {
  bind = λ setup past m readings c e mask time h k a. bind_queued setup past m readings c e h k mask time a;
  request_device = λ setup past m readings c e mask time h k a. request_device_queued setup past m readings c e h k mask time a;
  seat = λ setup past m readings c e x mask time h k a is. seat_stays setup past m readings c e h k x mask a is time;
  held = added_held;
  device = λ setup past m readings c e x mask time added h k a is far r enough adds. after_bind setup past m readings c e h k x mask time a is far r added enough adds;
  exhausted = λ setup past m readings c e x mask time h k a is far r. after_exhausted setup past m readings c e h k x mask time a is far r;
  last = λ setup past m readings later c e x mask time h k a is far out. after_last setup past m readings c e h k x mask a is time later far out;
}
