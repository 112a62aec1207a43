use Rattle.std.proofs.Common.{arith}
use Rattle.ei_wire.specs.declared.arg.Arg.TheVariants.{Uint32}
use Rattle.ei_backend.proofs.Sending.{next_le}
use Rattle.reis_demo.proofs.opening.body_len.Goals as goal

pub overflow_cast-len : goal.overflow_cast-len
overflow_cast-len c =
    let h = next_le c.args.args.now c.loop-arg.arg-index (Uint32 0) c.loop-arg-test.true in
    omega (arith, h, c.requires, c.size.ensures)

pub overflow_add-len : goal.overflow_add-len
overflow_add-len c =
    let h = next_le c.args.args.now c.loop-arg.arg-index (Uint32 0) c.loop-arg-test.true in
    omega (arith, h, c.requires, c.size.ensures, c.loop-arg.invariant)
