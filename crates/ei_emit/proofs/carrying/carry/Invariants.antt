use Rattle.std.proofs.Common.{◌≡◌, false}
use Rattle.ei_linked.specs.TwoEnds.{other_side}
use Rattle.ei_emit.specs.Carried.{moment, HasGone, NoneUnsent, left_for}
use Rattle.ei_emit.proofs.carrying.carry.Given as goal

abbrev pub invariant-loop : goal.invariant-loop
invariant-loop g l = record {
  whole : l.pair.ends.spent ≡ false;
  unsent : NoneUnsent (other_side l.to) l.pair.ends;
  gone : HasGone l.to (moment l.fn.pair (g.C.Clock.view l.fn.clock).left) (moment l.pair (g.C.Clock.view l.clock).left);
  later : g.C.Clock.later l.fn.clock l.clock;
}

abbrev pub decreases-loop : goal.decreases-loop
decreases-loop g l = left_for l.to l.pair.ends
