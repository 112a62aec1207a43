use Rattle.reis_strict.specs.Acts.{act_of}
use Rattle.reis_strict.specs.Policy.{judged}
use Rattle.reis_strict.proofs.laws.verdicts.Goals as goal

pub returns : goal.returns
returns c = λ devices history role request stands i. judged role (act_of request) (λ d. stands.states d i) (λ d k code. stands.downs d k code i)
