use Rattle.ei_reported.proofs.AfterEachKind.{device_comes_pending, device_comes_typed, device_refused_pending, device_refused_typed}
use Rattle.ei_reported.proofs.AfterEachKind.{device_comes_added}
use Rattle.ei_reported.proofs.AfterEachKind.{device_types, device_types_pending, device_types_added, device_done_pending, device_done_typed}
use Rattle.ei_reported.proofs.AfterEachKind.{device_done_added, device_done_dropped}
use Rattle.ei_reported.proofs.AfterEachKind.{device_goes_pending, device_goes_typed, device_goes_added, other_device_pending, other_device_typed}
use Rattle.ei_reported.proofs.AfterEachKind.{other_device_added}
use Rattle.ei_reported.proofs.standing.devices_after.Goals as goal

pub returns : goal.returns
returns c = record {
  comes = λ before seat device h id. device_comes_pending before seat device id h;
  comes_typed = λ before seat device h id. device_comes_typed before seat device id h;
  refused = λ before seat device h id. device_refused_pending before seat device id h;
  refused_typed = λ before seat device h id. device_refused_typed before seat device id h;
  came = device_comes_added;
  typed = device_types;
  typed_pending = device_types_pending;
  typed_added = device_types_added;
  done = device_done_pending;
  done_typed = device_done_typed;
  added = λ before device p t id. device_done_added before device id p t;
  dropped = λ before device h id. device_done_dropped before device id h;
  goes = device_goes_pending;
  goes_typed = device_goes_typed;
  removed = device_goes_added;
  other_pending = λ before m h id. other_device_pending before m id h;
  other_typed = λ before m h id. other_device_typed before m id h;
  other_added = λ before m h id. other_device_added before m id h;
}
