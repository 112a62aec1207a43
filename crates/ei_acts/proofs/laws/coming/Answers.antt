use Rattle.ei_acts.proofs.Sending.{seat_comes_sends}
use Rattle.ei_acts.proofs.Describing.{device_of_seat_sends}
use Rattle.ei_acts.proofs.laws.coming.Goals as goal

pub returns : goal.returns
returns c = record {
  seat_comes = seat_comes_sends;
  device_comes = device_of_seat_sends;
}
