use Rattle.std.proofs.Common.{◌≡◌, ◌≤◌, length, take}
use Rattle.ei_backend.specs.Outgoing.{args_body}
use Rattle.ei_backend.proofs.outgoing.body_size.Given as goal

abbrev pub invariant-loop-arg : goal.invariant-loop-arg
invariant-loop-arg l = (l.size ≡ length (args_body (take l.arg-index l.args))) × (l.size ≤ 1048560)
