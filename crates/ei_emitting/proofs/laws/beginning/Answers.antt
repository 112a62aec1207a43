use Rattle.ei_emitting.proofs.Beginning.{begins, rests}
use Rattle.ei_emitting.proofs.laws.beginning.Goals as goal

pub returns : goal.returns
returns c = record {
  begins = begins;
  rests = rests;
}
