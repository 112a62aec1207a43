use Rattle.std.proofs.Common.{◌-◌}
use Rattle.ei_backend.proofs.RingLaws.{GoesOn}
use Rattle.ei_backend.proofs.ring.capacity_for.Given as goal

abbrev pub invariant-loop-larger : goal.invariant-loop-larger
invariant-loop-larger l = GoesOn l.len l.capacity l.wanted l.larger

abbrev pub decreases-loop-larger : goal.decreases-loop-larger
decreases-loop-larger l = l.wanted - l.larger
