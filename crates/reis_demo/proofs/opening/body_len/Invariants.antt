use Rattle.std.proofs.Common.{◌≡◌, length, take}
use Rattle.ei_backend.specs.Outgoing.{args_body}
use Rattle.reis_demo.proofs.opening.body_len.Given as goal

abbrev pub invariant-loop-arg : goal.invariant-loop-arg
invariant-loop-arg l = l.len ≡ length (args_body (take l.arg-index l.args))
