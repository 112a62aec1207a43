use Rattle.ei_reported.proofs.ReportedLaws.{tells_nothing, tells_input, tells_frame, tells_other, tells_free}
use Rattle.ei_reported.proofs.laws.given_by_item.Goals as goal

pub returns : goal.returns
returns c = record {
  nothing = tells_nothing;
  input = tells_input;
  frame = tells_frame;
  other = tells_other;
  free = tells_free;
}
