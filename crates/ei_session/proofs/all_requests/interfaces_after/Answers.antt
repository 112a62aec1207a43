use Rattle.ei_session.specs.Objects.{is_release}
use Rattle.ei_session.proofs.DeviceRange.{left_new, left_other, left_release, left_device_release, left_plain}
use Rattle.ei_session.proofs.all_requests.interfaces_after.Goals as goal

pub returns : goal.returns
unfolding is_release
returns c = record {
  new = left_new;
  another = left_other;
  interface_release = left_release;
  device_release = left_device_release;
  plain = left_plain;
}
