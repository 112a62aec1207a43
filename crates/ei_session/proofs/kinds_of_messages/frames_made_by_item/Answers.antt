use Rattle.ei_session.proofs.GivenByItem.{frames_input, frames_frame, frames_other, frames_free, frames_none}
use Rattle.ei_session.proofs.kinds_of_messages.frames_made_by_item.Goals as goal

pub returns : goal.returns
returns c = record {
  input = frames_input;
  frame = frames_frame;
  other = frames_other;
  free = frames_free;
  none = frames_none;
}
