use Rattle.std.proofs.Common.{arith}
use Rattle.reis_c.specs.Handles.{handle_of}
use Rattle.reis_c.proofs.Copies.{copied_more}
use Rattle.reis_c.proofs.writing.copy_handles.Goals as goal

pub loop-i-preserved : goal.loop-i-preserved
loop-i-preserved c =
    copied_more handle_of c.loop-i.i 0 c.args.from.now c.loop-i.room c.args.room.now (omega (arith, c.min-count.ensures, c.loop-i-test.true))
    (omega (arith, c.min-count.ensures, c.loop-i-test.true)) c.loop-i.invariant
