use Rattle.ei_reported.proofs.NoneWaits.{none_waits}
use Rattle.ei_reported.proofs.laws.waiting.Goals as goal

pub returns : goal.returns
returns c = record {
  none = none_waits;
}
