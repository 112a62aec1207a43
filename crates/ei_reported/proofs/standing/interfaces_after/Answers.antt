use Rattle.ei_reported.proofs.AfterEachKind.{interface_gets, interface_refused, interface_device_goes, interface_dropped, interface_done}
use Rattle.ei_reported.proofs.AfterEachKind.{interface_not_pending, interface_goes, other_interface}
use Rattle.ei_reported.proofs.standing.interfaces_after.Goals as goal

pub returns : goal.returns
returns c = record {
  gets = interface_gets;
  refused = λ before d i name version h id. interface_refused before d i name version id h;
  device_goes = interface_device_goes;
  dropped = interface_dropped;
  done = λ before d h id. interface_done before d id h;
  not_pending = λ before d h id. interface_not_pending before d id h;
  goes = interface_goes;
  other = λ before m h id. other_interface before m id h;
}
