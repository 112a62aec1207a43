use Rattle.ei_acts.proofs.Acting.{said_onto, connection_onto, never_at_client}
use Rattle.ei_acts.proofs.laws.telling_in_turn.Goals as goal

pub returns : goal.returns
returns c = record {
  list = said_onto;
  behind = connection_onto;
  client = never_at_client;
}
