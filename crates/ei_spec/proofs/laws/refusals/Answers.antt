use Rattle.ei_spec.proofs.SameFault.{same_one, same_all}
use Rattle.ei_spec.proofs.laws.refusals.Goals as goal

pub returns : goal.returns
returns c = record { one = same_one; all = λ kinds s t f taken same e other. same_all kinds s t (f, taken) same e other }
