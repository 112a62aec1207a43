use Rattle.ei_reported.proofs.NeverBrought.{brought_more, new_seat_pending, new_seat_added, new_device_pending, new_device_added, new_seat_of}
use Rattle.ei_reported.proofs.NeverBrought.{new_interface}
use Rattle.ei_reported.proofs.standing.new_ids.Goals as goal

pub returns : goal.returns
returns c = record {
  more = brought_more;
  seat_pending = new_seat_pending;
  seat_added = new_seat_added;
  device_pending = new_device_pending;
  device_added = new_device_added;
  seat_of = new_seat_of;
  interface = new_interface;
}
