use Rattle.std.specs.Prelude.{map}
use Rattle.ei_serve.specs.Standing.{setup_of}
use Rattle.ei_replay.specs.Asked.{asked_of}
use Rattle.ei_replay.proofs.Checking.{Checked}
use Rattle.ei_replay.proofs.record_check.check.Given as goal

abbrev pub invariant-loop-at : goal.invariant-loop-at
invariant-loop-at l = Checked (setup_of l.fn.setup) (map asked_of l.items) l.at l.played
