use Rattle.ei_steady.proofs.StandsOn.{seat_goes, one_goes, interfaces_go, device_goes}
use Rattle.ei_steady.proofs.Going.{devices_go, are_held}
use Rattle.ei_steady.proofs.laws.going.Goals as goal

pub returns : goal.returns
returns c = record {
  seat_goes = seat_goes;
  interface_goes = one_goes;
  interfaces_go = interfaces_go;
  device_goes = device_goes;
  devices_go = devices_go;
  held = are_held;
}
