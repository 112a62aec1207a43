use Rattle.std.proofs.Common.{◌≡◌, ◌≤◌, ◌++◌, take, vec_capacity}
use Rattle.ei_backend.specs.Outgoing.{args_body}
use Rattle.reis_demo.proofs.opening.push_args.Given as goal

abbrev pub invariant-loop-arg : goal.invariant-loop-arg
invariant-loop-arg l = record {
  bytes : l.out.items ≡ l.fn.out.items ++ args_body (take l.arg-index l.args);
  capacity : vec_capacity l.fn.out ≤ vec_capacity l.out;
}
