use Rattle.std.proofs.Common.{◌≡◌, map, length}
use Rattle.ei_replay.specs.Asked.{asked_of}
use Rattle.ei_filter.specs.Steps.{frame_ahead}
use Rattle.ei_filter.proofs.kind.frame_ahead.Given as goal

abbrev pub invariant-loop-item : goal.invariant-loop-item
invariant-loop-item l = frame_ahead l.device (map asked_of l.fn.items) ≡ frame_ahead l.device (map asked_of l.later)

abbrev pub decreases-loop-item : goal.decreases-loop-item
decreases-loop-item l = length l.later
