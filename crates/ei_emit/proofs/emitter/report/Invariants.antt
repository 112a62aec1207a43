use Rattle.std.proofs.Common.{length}
use Rattle.ei_emit.specs.Queued.{queue_in}
use Rattle.ei_emit.proofs.Queues.{HasGiven}
use Rattle.ei_emit.proofs.emitter.report.Given as goal

abbrev pub invariant-loop : goal.invariant-loop
invariant-loop g l = HasGiven l.fn.pair l.fn.out.items l.pair l.out.items

abbrev pub decreases-loop : goal.decreases-loop
decreases-loop g l = length (queue_in l.pair.client)
