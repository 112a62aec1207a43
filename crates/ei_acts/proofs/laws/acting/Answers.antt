use Rattle.ei_acts.proofs.Acting as acting
use Rattle.ei_acts.proofs.Fresh.{fresh}
use Rattle.ei_acts.proofs.laws.acting.Goals as goal

pub returns : goal.returns
returns c = record {
  fresh = fresh;
  begins = acting.begins;
  act = acting.act_steady;
  never = acting.never;
  stands = (λ c steps f d. (acting.stands c steps f d).stands);
}
