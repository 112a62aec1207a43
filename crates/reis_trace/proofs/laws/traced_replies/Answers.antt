use Rattle.reis_trace.proofs.ReadByClient.{traced_replies}
use Rattle.reis_trace.proofs.Dones.{called_done, done_called}
use Rattle.reis_trace.proofs.laws.traced_replies.Goals as goal

pub returns : goal.returns
returns c = record {
  traced = traced_replies;
  done = λ setup stream earlier event reply. (done_called setup stream earlier event reply, called_done setup stream earlier event reply);
}
