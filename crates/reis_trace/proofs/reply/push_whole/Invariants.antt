use Rattle.std.proofs.Common.{length}
use Rattle.reis_trace.specs.SoFar.{TracesOn}
use Rattle.reis_trace.proofs.reply.push_whole.Given as goal

-- the messages so far are traced
abbrev pub invariant-loop-is_message : goal.invariant-loop-is_message
invariant-loop-is_message l = TracesOn l.fn.client l.client l.fn.lines.items l.lines.items

abbrev pub decreases-loop-is_message : goal.decreases-loop-is_message
decreases-loop-is_message l = length l.client.unread
