use Rattle.ei_acts.proofs.Serving.{serves_first, serves_on, serves_then, serves_never}
use Rattle.ei_acts.proofs.laws.serving.Goals as goal

pub returns : goal.returns
returns c = record {
  begins = serves_first;
  rests = serves_on;
  acts = serves_then;
  never = serves_never;
}
