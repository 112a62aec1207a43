use Rattle.std.specs.Prelude.{take}
use Rattle.ei_acts.specs.Sendable.{AreLawful}
use Rattle.ei_pair.proofs.texts.description.Given as goal

abbrev pub invariant-loop-one : goal.invariant-loop-one
invariant-loop-one l = AreLawful (take l.one-index l.setup)
