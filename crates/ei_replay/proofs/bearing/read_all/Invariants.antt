use Rattle.std.specs.Prelude.{map}
use Rattle.ei_replay.specs.Asked.{asked_of}
use Rattle.ei_replay.proofs.Borne.{BorneTo}
use Rattle.ei_replay.proofs.bearing.read_all.Given as goal

abbrev pub invariant-loop-at : goal.invariant-loop-at
invariant-loop-at l = BorneTo (map asked_of l.items) l.at
