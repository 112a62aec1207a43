use Rattle.ei_reported.proofs.ReportedLaws.{frames_other, frames_input, frames_frame, frames_free, frames_nothing}
use Rattle.ei_reported.proofs.laws.frames_after.Goals as goal

pub returns : goal.returns
returns c = record {
  made = frames_other;
  input = frames_input;
  frame = frames_frame;
  free = frames_free;
  nothing = frames_nothing;
}
