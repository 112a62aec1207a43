use Rattle.ei_session.proofs.MadeLaws.{made_by_bind, made_by_request, made_shut}
use Rattle.ei_session.proofs.ObjectLaws.{makes_nothing}
use Rattle.ei_session.proofs.ObjectShape.{release_makes_nothing}
use Rattle.ei_session.proofs.DeviceRange.{ids_some}
use Rattle.ei_session.proofs.all_requests.devices_made.Goals as goal

pub returns : goal.returns
returns c = record {
  bind = made_by_bind;
  request_device = made_by_request;
  shut = made_shut;
  other = makes_nothing;
  release = release_makes_nothing;
  ids = ids_some;
}
