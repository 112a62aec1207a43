use Rattle.ei_iterator.proofs.Queued.{at_most, queued_first}
use Rattle.ei_iterator.proofs.laws.next_over.Goals as goal

pub returns : goal.returns
returns g c = record {
  most = λ most s pieces turns n h. at_most most s turns h.turns_are;
  first = λ most s pieces turns n event others queue h. queued_first most s event others queue pieces turns n h;
}
