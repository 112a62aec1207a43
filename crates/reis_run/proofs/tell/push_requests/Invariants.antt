use Rattle.std.proofs.Common.{◌≡◌, ◌++◌, take}
use Rattle.reis_run.specs.Tell.{request_lines}
use Rattle.reis_run.proofs.tell.push_requests.Given as goal

abbrev pub invariant-loop-request : goal.invariant-loop-request
invariant-loop-request l = l.out.items ≡ l.fn.out.items ++ request_lines (take l.request-index l.requests)
