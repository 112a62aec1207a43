use Rattle.std.proofs.Common.{◌≡◌, ◌≤◌, ◌+◌, ◌-◌, ◌*◌, ◌++◌, vec_len, vec_capacity}
use Rattle.ei_spec.specs.Message.{all_bytes}
use Rattle.reis_demo.specs.Generated.{after_draws, drawn_inputs}
use Rattle.reis_demo.proofs.script.push_inputs.Given as goal

abbrev pub invariant-loop-draw : goal.invariant-loop-draw
invariant-loop-draw l = record {
  bytes : l.out.items ++ all_bytes (drawn_inputs (l.count - l._draw) l.number) ≡ l.fn.out.items ++ all_bytes (drawn_inputs l.count l.fn.start);
  number : after_draws (l.count - l._draw) l.number ≡ after_draws l.count l.fn.start;
  len : vec_len l.out ≡ vec_len l.fn.out + 24 * l._draw;
  capacity : vec_capacity l.fn.out ≤ vec_capacity l.out;
}
