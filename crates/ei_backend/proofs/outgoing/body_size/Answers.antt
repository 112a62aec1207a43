use Rattle.std.proofs.Common.{arith, refl}
use Rattle.ei_wire.specs.declared.arg.Arg.TheVariants.{Uint32}
use Rattle.ei_backend.proofs.Sending.{next_le}
use Rattle.ei_backend.proofs.outgoing.body_size.Goals as goal

pub returns-then-more-size-clause-err : goal.returns-then-more-size-clause-err
returns-then-more-size-clause-err c =
    let h = next_le c.args.args.now c.loop-arg.arg-index (Uint32 0) c.loop-arg-test.true in
    (refl, omega (arith, h, c.loop-arg.invariant.0, c.size-more.ensures))
