use Rattle.std.proofs.Common.{◌∙◌}
use Rattle.reis_demo.proofs.Saying.{next_draw}
use Rattle.reis_demo.proofs.script.after_draws.Goals as goal

pub loop-draw-preserved : goal.loop-draw-preserved
loop-draw-preserved c = next_draw c.args.count c.loop-draw._draw c.loop-draw.number c.draw-number.result c.loop-draw-test.true c.draw-number.ensures ∙ c.loop-draw.invariant
