use Rattle.std.proofs.Common.{◌≡◌, length}
use Rattle.ei_keyed.specs.Places.{live}
use Rattle.ei_keyed.proofs.iter.IterIterator.next.Given as goal

abbrev pub invariant-loop-place : goal.invariant-loop-place
invariant-loop-place g l = live l.self-inside.places.now ≡ l.fn.self

abbrev pub decreases-loop-place : goal.decreases-loop-place
decreases-loop-place g l = length l.self-inside.places.now
