use Rattle.ei_session.proofs.GivenByItem.{gives_input, gives_frame, gives_other, gives_free, gives_none}
use Rattle.ei_session.proofs.kinds_of_messages.given_by_item.Goals as goal

pub returns : goal.returns
returns c = record {
  input = gives_input;
  frame = gives_frame;
  other = gives_other;
  free = gives_free;
  none = gives_none;
}
