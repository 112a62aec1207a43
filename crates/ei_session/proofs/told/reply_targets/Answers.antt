use Rattle.ei_session.proofs.TellingAnswers.{reply_told}
use Rattle.ei_session.proofs.told.reply_targets.Goals as goal

pub returns : goal.returns
returns c = record {
  target = λ setup stream earlier event h. (reply_told setup stream earlier event h).target;
  there = λ setup stream earlier event h. (reply_told setup stream earlier event h).there;
  new = λ setup stream earlier event id interface h q. (reply_told setup stream earlier event h).new id interface q;
  reads = λ setup stream earlier event h. let t = reply_told setup stream earlier event h in (t.row, t.values, t.reads);
}
