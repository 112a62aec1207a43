use Rattle.std.proofs.Common.{◌≡◌, ◌-◌}
use Rattle.reis_demo.specs.Generated.{after_draws}
use Rattle.reis_demo.proofs.script.after_draws.Given as goal

abbrev pub invariant-loop-draw : goal.invariant-loop-draw
invariant-loop-draw l = after_draws (l.count - l._draw) l.number ≡ after_draws l.count l.start
