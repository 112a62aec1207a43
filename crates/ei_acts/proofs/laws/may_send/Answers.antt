use Rattle.ei_acts.proofs.EndMay.{sync_may}
use Rattle.ei_acts.proofs.MayAct.{gone_act, disconnected_act, seat_announced}
use Rattle.ei_acts.proofs.SeatMay.{seat_comes_may}
use Rattle.ei_acts.proofs.DeviceMay.{device_comes_may}
use Rattle.ei_acts.proofs.laws.may_send.Goals as goal

pub returns : goal.returns
returns c = record {
  sync = sync_may;
  gone = gone_act;
  disconnected = disconnected_act;
  seat_comes = seat_comes_may;
  device_comes = device_comes_may;
  announced = seat_announced;
}
