use Rattle.ei_standing.proofs.ConnectionMessages.{after_unknown, after_disconnect, after_pong}
use Rattle.ei_standing.proofs.CallbackCalled.{after_sync}
use Rattle.ei_standing.proofs.connections.connection_messages.Goals as goal

pub returns : goal.returns
returns c = record {
  unknown = after_unknown;
  disconnect = λ setup past m readings c e time h k. after_disconnect setup past m readings c e h k time;
  pong = λ setup past m readings c e number time h k. after_pong setup past m readings c e h k number time;
  sync = λ setup past m readings c e o v time table h k a n. after_sync setup past m readings c e o v time table h k a n;
}
