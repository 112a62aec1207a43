use Rattle.ei_session.proofs.AllParts.{framed_more, framed_readings, replies_more}
use Rattle.ei_session.proofs.ObjectLaws.{object_says}
use Rattle.ei_session.proofs.ObjectShape.{next_id_more, same_connected, now_connected}
use Rattle.ei_session.proofs.SerialLaws.{serial_more, down_more, settled_fixed, version_fixed}
use Rattle.ei_session.proofs.all_requests.all_one_more.Goals as goal

pub returns : goal.returns
returns c = record {
  framed = framed_more;
  readings = framed_readings;
  replies = replies_more;
  serial = serial_more;
  next_id = next_id_more;
  object = object_says;
  is_down = down_more;
  connected = same_connected;
  finish = now_connected;
  settled = settled_fixed;
  version = version_fixed;
}
