use Rattle.ei_session.proofs.AcceptedLaws.{accepted_unrefused, unread_short}
use Rattle.ei_session.proofs.TouchLaws.{touches_within}
use Rattle.ei_session.proofs.ReplyBytes.{few_interfaces, few_gone, reply_bytes, longest_is}
use Rattle.ei_session.proofs.all_requests.bounds.Goals as goal

pub returns : goal.returns
returns c = record {
  unrefused = accepted_unrefused;
  touches = touches_within;
  unread = unread_short;
  interfaces = few_interfaces;
  gone = few_gone;
  reply = reply_bytes;
  longest = longest_is;
}
