use Rattle.ei_acts.proofs.AsAnnounced.{device_goes_as, seat_goes_as, ends_as, gone_as_may, ends_as_may, go_as_there, same_as_there, go_as_kept}
use Rattle.ei_acts.proofs.laws.going_as_announced.Goals as goal

pub returns : goal.returns
returns c = record {
  device_goes = device_goes_as;
  seat_goes = seat_goes_as;
  disconnected = ends_as;
  gone = gone_as_may;
  end = ends_as_may;
  there = go_as_there;
  same = same_as_there;
  kept = go_as_kept;
}
