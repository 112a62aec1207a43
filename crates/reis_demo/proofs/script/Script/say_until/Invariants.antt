use Rattle.std.proofs.Common.{◌≡◌, ◌≤◌, ◌-◌, ◌++◌, vec_len, vec_capacity}
use Rattle.ei_spec.specs.Message.{all_bytes}
use Rattle.reis_demo.specs.Script.{unsaid, IsTimed}
use Rattle.reis_demo.proofs.script.Script.say_until.Given as goal

abbrev pub invariant-loop-self : goal.invariant-loop-self
invariant-loop-self l = record {
  said : l.out.items ++ all_bytes (unsaid l.self) ≡ l.fn.out.items ++ all_bytes (unsaid l.fn.self);
  times : IsTimed l.self;
  capacity : vec_capacity l.fn.out ≤ vec_capacity l.out;
}

abbrev pub decreases-loop-self : goal.decreases-loop-self
decreases-loop-self l = l.len - vec_len l.out
