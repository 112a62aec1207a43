use Rattle.ei_session.proofs.RunsOut.{exhausting_reply, exhausting_last}
use Rattle.ei_session.proofs.kinds_of_messages.ids_run_out.Goals as goal

pub returns : goal.returns
returns c = record {
  reply = exhausting_reply;
  last = exhausting_last;
}
