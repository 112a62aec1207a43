use Rattle.ei_reported.proofs.ByPositions.{adds_seat_is, completes_typed, device_comes_is, offers_is, takes_another, takes_device_goes, takes_dropped}
use Rattle.ei_reported.proofs.ByPositions.{takes_goes}
use Rattle.ei_reported.proofs.standing.starts_and_ends.Goals as goal

pub returns : goal.returns
returns c = record {
  adds_seat = adds_seat_is;
  device_comes = device_comes_is;
  completes = completes_typed;
  offers = offers_is;
  another = takes_another;
  device_goes = takes_device_goes;
  dropped = takes_dropped;
  goes = takes_goes;
}
