use Rattle.std.proofs.Common.{◌≡◌, ◌≤◌, ◌++◌, take, vec_capacity}
use Rattle.ei_backend.specs.Outgoing.{args_body, args_handles}
use Rattle.ei_backend.proofs.outgoing.push_args.Given as goal

abbrev pub invariant-loop-arg : goal.invariant-loop-arg
invariant-loop-arg l = record {
  bytes : l.out.items ≡ l.fn.out.items ++ args_body (take l.arg-index l.args);
  handles : l.handles.items ≡ l.fn.handles.items ++ args_handles (take l.arg-index l.args);
  capacity : vec_capacity l.fn.out ≤ vec_capacity l.out;
  handle_capacity : vec_capacity l.fn.handles ≤ vec_capacity l.handles;
}
