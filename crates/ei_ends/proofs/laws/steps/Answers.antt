use Rattle.ei_ends.proofs.Alike.{alike}
use Rattle.ei_ends.proofs.JoinedSteps.{begins, turned, call, flush, handed_is, deliver, close, read_next, reads_nothing, reads_message, reads_gone, ring, room}
use Rattle.ei_ends.proofs.laws.steps.Goals as goal

pub returns : goal.returns
returns c = record {
  begins = begins;
  turned = turned;
  call = call;
  flush = flush;
  piece = handed_is;
  deliver = deliver;
  close = close;
  read = read_next;
  reads_nothing = reads_nothing;
  reads_message = reads_message;
  reads_gone = reads_gone;
  ring = ring;
  room = room;
  alike = alike;
}
