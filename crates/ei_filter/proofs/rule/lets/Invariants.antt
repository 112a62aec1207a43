use Rattle.std.proofs.Common.{◌≡◌}
use Rattle.ei_replay.specs.Asked.{asked_of}
use Rattle.ei_filter.proofs.Lets.{lets_from}
use Rattle.ei_filter.proofs.rule.lets.Given as goal

abbrev pub invariant-loop-rule : goal.invariant-loop-rule
invariant-loop-rule g l = lets_from (λ r. (goal.Rule-dyn g (r.vtable, r.value)).test r.value) (λ r. (goal.Rule-dyn g (r.vtable, r.value)).asked r.value) (asked_of l.request) 0 l.rules
    ≡ lets_from (λ r. (goal.Rule-dyn g (r.vtable, r.value)).test r.value) (λ r. (goal.Rule-dyn g (r.vtable, r.value)).asked r.value) (asked_of l.request) l.rule-index l.rules
