use Rattle.std.proofs.Common.{refl, sym, arith}
use Rattle.ei_backend.proofs.RingLaws.{grown_stays, starts, goes_on, ends, is_past}
use Rattle.ei_backend.proofs.ring.capacity_for.Goals as goal

pub returns-then-wanted-capacity : goal.returns-then-wanted-capacity
returns-then-wanted-capacity c = sym (grown_stays _ _ c.if-wanted-capacity.true)

pub loop-larger-init : goal.loop-larger-init
loop-larger-init c = starts _ _ _ refl c.if-wanted-capacity.false

pub returns-in_err-larger : goal.returns-in_err-larger
returns-in_err-larger c =
    let past = is_past _ _ _ _ c.loop-larger.invariant c.loop-larger-test.true in
    rw c.from_residual.ensures (omega (arith, past, c.in_err-larger.ensures))

pub loop-larger-preserved : goal.loop-larger-preserved
loop-larger-preserved c = goes_on _ _ _ _ _ c.loop-larger.invariant c.loop-larger-test.true c.in_ok-larger.ensures.1

pub returns : goal.returns
returns c = ends _ _ _ _ c.loop-larger.invariant c.loop-larger-test.false
