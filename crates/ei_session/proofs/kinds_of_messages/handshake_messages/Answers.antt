use Rattle.ei_session.proofs.BeforeTheFinish.{early_item, early_input, early_gone, early_steps, early_synced, early_reply, early_keeps, early_next, early_left}
use Rattle.ei_session.proofs.BeforeTheFinish.{came_more}
use Rattle.ei_session.proofs.kinds_of_messages.handshake_messages.Goals as goal

pub returns : goal.returns
returns c = record {
  item = early_item;
  input = early_input;
  gone = early_gone;
  steps = early_steps;
  synced = early_synced;
  reply = λ setup past m off f. early_reply past m off setup f;
  keeps = λ setup past m off f. early_keeps past m off setup f;
  next_id = early_next;
  left = early_left;
  came = came_more;
}
