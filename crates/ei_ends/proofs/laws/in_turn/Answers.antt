use Rattle.ei_ends.proofs.JoinedSteps.{calls_turn, plain_all}
use Rattle.ei_ends.proofs.laws.in_turn.Goals as goal

pub returns : goal.returns
returns c = record { calls = calls_turn; plain = plain_all }
