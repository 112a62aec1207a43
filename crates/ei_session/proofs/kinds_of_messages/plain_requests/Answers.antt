use Rattle.ei_session.proofs.GoneLaws.{no_finish_again}
use Rattle.ei_session.proofs.KeptByRequests.{plainly_device, plainly_known, plainly_unknown, device_connected, stays_connected, made_connected, fixed_versions}
use Rattle.ei_session.proofs.KeptByRequests.{same_next_id}
use Rattle.ei_session.proofs.kinds_of_messages.plain_requests.Goals as goal

pub returns : goal.returns
returns c = record {
  device = plainly_device;
  known = plainly_known;
  unknown = plainly_unknown;
  connected = device_connected;
  no_finish = no_finish_again;
  stays = stays_connected;
  makes = made_connected;
  versions = fixed_versions;
  next_id = same_next_id;
}
