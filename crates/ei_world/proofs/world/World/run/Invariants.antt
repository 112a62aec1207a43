use Rattle.std.proofs.Common.{◌≡◌, false, take}
use Rattle.ei_world.specs.Steps.{AllAccepted, after_steps}
use Rattle.ei_world.proofs.world.World.run.Given as goal

abbrev pub invariant-loop-place : goal.invariant-loop-place
invariant-loop-place l = AllAccepted (take l.place l.steps) l.fn.self × (l.self ≡ after_steps (take l.place l.steps) l.fn.self) × (l.self.spent ≡ false)
