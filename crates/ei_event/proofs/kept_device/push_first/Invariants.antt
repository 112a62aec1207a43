use Rattle.std.proofs.Common.{◌≡◌, ◌++◌, ◌+◌}
use Rattle.std.specs.Prelude.{map, vec_len}
use Rattle.std.specs.VecDeque.{deque_len}
use Rattle.ei_event.specs.Event.{timed}
use Rattle.ei_event.proofs.kept_device.push_first.Given as goal

-- what was pushed and what waits are the inputs, and there is room for the rest
abbrev pub invariant-loop-input : goal.invariant-loop-input
invariant-loop-input l = record {
  made : l.queue.items ++ map (timed l.device l.time) l.inputs.items ≡ l.fn.queue.items ++ map (timed l.device l.time) l.fn.waiting.items;
  room : l.queue.room + vec_len l.fn.waiting ≡ l.fn.queue.room + deque_len l.inputs;
}

abbrev pub decreases-loop-input : goal.decreases-loop-input
decreases-loop-input l = deque_len l.inputs
