use Rattle.ei_acts.proofs.Sending.{device_goes_sends, seat_goes_sends}
use Rattle.ei_acts.proofs.Describing.{ends_sends}
use Rattle.ei_acts.proofs.AnnouncedThere.{device_may_go, seat_may_go, all_may_go}
use Rattle.ei_acts.proofs.laws.going.Goals as goal

pub returns : goal.returns
returns c = record {
  device_goes = device_goes_sends;
  seat_goes = seat_goes_sends;
  disconnected = ends_sends;
  device = device_may_go;
  seat = seat_may_go;
  all = all_may_go;
}
