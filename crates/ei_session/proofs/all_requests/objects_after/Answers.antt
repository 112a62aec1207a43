use Rattle.ei_session.specs.Objects.{is_release}
use Rattle.ei_session.proofs.ObjectLaws.{object_new, object_interface_release, object_device_gone, object_device_left, object_plain}
use Rattle.ei_session.proofs.ObjectShape.{object_seat_release, object_unknown}
use Rattle.ei_session.proofs.FirstObjects.{object_handed}
use Rattle.ei_session.proofs.all_requests.objects_after.Goals as goal

pub returns : goal.returns
unfolding is_release
returns c = record {
  finish = object_handed;
  device = object_new;
  seat_release = object_seat_release;
  interface_release = object_interface_release;
  device_gone = object_device_gone;
  device_left = object_device_left;
  plain = object_plain;
  unknown = object_unknown;
}
