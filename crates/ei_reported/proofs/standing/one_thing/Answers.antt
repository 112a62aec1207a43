use Rattle.ei_reported.proofs.OneThing.{one_seat, one_device, seat_no_device, seat_no_interface, device_no_interface}
use Rattle.ei_reported.proofs.standing.one_thing.Goals as goal

pub returns : goal.returns
returns c = record {
  seat = one_seat;
  device = one_device;
  seat_no_device = seat_no_device;
  seat_no_interface = seat_no_interface;
  device_no_interface = device_no_interface;
}
