use Rattle.std.proofs.Common.{arith}
use Rattle.ei_backend.proofs.Sending.{spelled_at}
use Rattle.reis_demo.proofs.opening.push_args.Goals as goal

pub write-requires : goal.write-requires
write-requires c = spelled_at c.args.args.now c.loop-arg.arg-index _ c.loop-arg-test.true (omega (arith, c.requires))
