use Rattle.std.specs.Prelude.{map}
use Rattle.ei_session.specs.Setup.{Setup}
use Rattle.ei_replay.specs.Asked.{asked_of}
use Rattle.ei_replay.specs.Sending.{of_most_pieces}
use Rattle.ei_replay.specs.Replays.{IsReady}
use Rattle.ei_replay.proofs.SoFar.{PlayedTo}
use Rattle.ei_replay.proofs.record_replay.play_all.Given as goal

abbrev pub invariant-loop-at : goal.invariant-loop-at
invariant-loop-at l = (setup : Setup) → IsReady setup (map asked_of l.items) l.fn.player →
    PlayedTo (of_most_pieces setup) (map asked_of l.items) l.at l.player l.fn.stream.items l.stream.items l.fn.out.items l.out.items
