use Rattle.ei_session.proofs.ItemLaws.{item_input, item_frame, item_closed, item_start, item_stop, item_ready, item_bind, item_request_device, item_disconnect}
use Rattle.ei_session.proofs.ItemLaws.{item_sync, item_seat_release, item_release, item_unknown}
use Rattle.ei_session.proofs.all_requests.items.Goals as goal

pub returns : goal.returns
returns c = record {
  input = item_input;
  frame = λ before m e d serial time k i o. item_frame before m e d k i o serial time;
  closed = λ before m e d k i o. item_closed before m e d k i o;
  start = λ before m e d serial sequence k i o. item_start before m e d k i o serial sequence;
  stop = λ before m e d serial k i o. item_stop before m e d k i o serial;
  ready = λ before m e d k i o. item_ready before m e d k i o;
  bind = λ before m e mask k. item_bind before m e k mask;
  request_device = λ before m e mask k. item_request_device before m e k mask;
  disconnect = item_disconnect;
  sync = λ before m e callback v k. item_sync before m e k callback v;
  seat_release = item_seat_release;
  interface_release = item_release;
  unknown = item_unknown;
}
