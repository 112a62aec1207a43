use Rattle.ei_acts.proofs.Steadying.{answer_steady, seat_comes_steady}
use Rattle.ei_acts.proofs.DeviceSteady.{device_of_seat_steady}
use Rattle.ei_acts.proofs.GoingSteady.{device_goes_steady}
use Rattle.ei_acts.proofs.SeatSteady.{seat_goes_steady, disconnected_steady}
use Rattle.ei_acts.proofs.laws.changing_steadily.Goals as goal

pub returns : goal.returns
returns c = record {
  answer = answer_steady;
  seat_comes = seat_comes_steady;
  device_comes = device_of_seat_steady;
  device_goes = device_goes_steady;
  seat_goes = seat_goes_steady;
  disconnected = disconnected_steady;
}
