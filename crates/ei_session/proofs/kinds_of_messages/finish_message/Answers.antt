use Rattle.ei_session.proofs.BeforeTheFinish.{finish_id, finish_serial, finish_next, finish_left, finish_item, finish_versions}
use Rattle.ei_session.proofs.kinds_of_messages.finish_message.Goals as goal

pub returns : goal.returns
returns c = record {
  target = finish_id;
  serial = λ setup past m f. finish_serial past m f setup;
  next_id = finish_next;
  left = λ past m d f. finish_left past m f d;
  item = finish_item;
  versions = finish_versions;
}
