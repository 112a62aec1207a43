use Rattle.std.proofs.Common.{sym, ◌∙◌, arith}
use Rattle.reis_demo.proofs.Saying.{next_draw, next_input, last_input}
use Rattle.reis_demo.proofs.script.push_inputs.Goals as goal

pub loop-draw-preserved : goal.loop-draw-preserved
loop-draw-preserved c = record {
  bytes =
      next_input c.args.count c.loop-draw._draw c.loop-draw.number c.draw-number.result c.loop-draw.out.items c.push_input.new.out.items c.loop-draw-test.true c.draw-number.ensures
      c.push_input.ensures.bytes
      ∙ c.loop-draw.invariant.bytes;
  number = next_draw c.args.count c.loop-draw._draw c.loop-draw.number c.draw-number.result c.loop-draw-test.true c.draw-number.ensures ∙ c.loop-draw.invariant.number;
  len = omega (arith, c.push_input.ensures.len, c.loop-draw.invariant.len);
  capacity = omega (arith, c.push_input.ensures.capacity, c.loop-draw.invariant.capacity);
}

pub returns-clause-bytes : goal.returns-clause-bytes
returns-clause-bytes c = sym (last_input c.args.count c.loop-draw._draw c.loop-draw.number c.loop-draw.out.items c.loop-draw-test.false) ∙ c.loop-draw.invariant.bytes
