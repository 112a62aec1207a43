use Rattle.std.proofs.Common.{◌≡◌, ◌≤◌, ◌++◌, take, vec_capacity}
use Rattle.reis_demo.specs.Generated.{own_versions}
use Rattle.reis_demo.proofs.Announcing.{announced}
use Rattle.reis_demo.proofs.opening.push_announcements.Given as goal

abbrev pub invariant-loop-name : goal.invariant-loop-name
invariant-loop-name l = record {
  bytes : l.out.items ≡ l.fn.out.items ++ announced (take l.name-index own_versions);
  capacity : vec_capacity l.fn.out ≤ vec_capacity l.out;
}
