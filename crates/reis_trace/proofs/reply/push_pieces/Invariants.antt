use Rattle.std.proofs.Common.{length}
use Rattle.reis_trace.proofs.Tracing.{TracesAll}
use Rattle.reis_trace.proofs.reply.push_pieces.Given as goal

-- the lines so far, and those that the client reads of what it has and of the rest, are all
abbrev pub invariant-loop-rest : goal.invariant-loop-rest
invariant-loop-rest l = TracesAll l.fn.reply l.lines.items l.client l.rest

abbrev pub decreases-loop-rest : goal.decreases-loop-rest
decreases-loop-rest l = length l.rest
