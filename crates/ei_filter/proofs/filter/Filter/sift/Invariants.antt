use Rattle.std.proofs.Common.{List, map, length}
use Rattle.ei_session.specs.Requests.{Request}
use Rattle.ei_replay.specs.Asked.{asked_of}
use Rattle.ei_filter.specs.Sifts.{enabled}
use Rattle.ei_filter.proofs.Sifting.{Sifting}
use Rattle.ei_filter.proofs.filter.Filter.sift.Given as goal

abbrev pub invariant-loop-item : goal.invariant-loop-item
invariant-loop-item g l = (before : List Request) × Sifting asked_of (goal.F-post g l.self.shift)
    (enabled (λ r. (goal.Rule-dyn g (r.vtable, r.value)).test r.value) (λ r. (goal.Rule-dyn g (r.vtable, r.value)).asked r.value) l.self.rules.items)
    (map asked_of l.items) l.fn.out.items before (map asked_of l.later) l.past l.out.items

abbrev pub decreases-loop-item : goal.decreases-loop-item
decreases-loop-item g l = length l.later
