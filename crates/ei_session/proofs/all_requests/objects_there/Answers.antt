use Rattle.ei_session.proofs.ObjectLaws.{object_is_introduced, device_above}
use Rattle.ei_session.proofs.ObjectShape.{object_seat, object_owner}
use Rattle.ei_session.proofs.FirstObjects.{object_first, object_handshake, object_connection}
use Rattle.ei_session.proofs.GoneLaws.{all_below, object_device, gone_for_good}
use Rattle.ei_session.proofs.all_requests.objects_there.Goals as goal

pub returns : goal.returns
returns c = record {
  first = object_first;
  handshake = object_handshake;
  connection = object_connection;
  seat = object_seat;
  owner = λ before id e d k p. let w = object_owner before id e d k p in (w.entry, w.is, w.kind, w.own);
  above = λ before id e d k p. device_above before id e d (object_is_introduced before id e k) p;
  below = all_below;
  device = object_device;
  gone = gone_for_good;
}
