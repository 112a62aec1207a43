use Rattle.ei_session.proofs.NextLaws.{own_first, own_connected, own_finish, own_device, own_other, own_made, own_exhausting, own_below}
use Rattle.ei_session.proofs.next.own_ids.Goals as goal

pub returns : goal.returns
returns c = record {
  first = own_first;
  connected = own_connected;
  finish = own_finish;
  device = own_device;
  other = own_other;
  made = own_made;
  exhausting = own_exhausting;
  below = own_below;
}
