use Rattle.std.proofs.Common.{◌≡◌, ◌≤◌, ◌+◌, ◌-◌, ◌*◌}
use Rattle.reis_demo.proofs.StreamLength.{group_bytes}
use Rattle.reis_demo.proofs.script.Script.bytes_left.Given as goal

abbrev pub invariant-loop-group : goal.invariant-loop-group
invariant-loop-group l = record {
  bytes : l.bytes + group_bytes (l.self.groups - l._group) l.number ≡ 16 + group_bytes l.self.groups l.self.number;
  few : l.bytes ≤ 16 + 100 * l._group;
}
