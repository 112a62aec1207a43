use Rattle.std.proofs.Common.{refl}
use Rattle.ei_reported.proofs.AllOpen.{all_open}
use Rattle.ei_reported.proofs.StatesByNumber.{disconnected, without_text}
use Rattle.ei_reported.proofs.rows.connection_events.Goals as goal

pub returns : goal.returns
unfolding all_open
returns c = record {
  handshake = λ opcode id values. refl;
  callback = λ opcode id values. refl;
  seat = λ id seat version. refl;
  ping = λ id ping version. refl;
  invalid_object = λ id serial invalid. refl;
  disconnected = disconnected;
  without_text = without_text;
}
