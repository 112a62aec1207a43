use Rattle.ei_session.proofs.AskedByMeaning.{greeting_asked, finish_asked, context_type_asked, name_asked, interface_version_asked, sync_asked}
use Rattle.ei_session.proofs.AskedByMeaning.{disconnect_asked, pong_asked, seat_release_asked, bind_asked, request_device_asked, device_release_asked}
use Rattle.ei_session.proofs.AskedByMeaning.{start_asked, stop_asked, frame_asked, ready_asked, its_interface, its_kind}
use Rattle.ei_session.proofs.meanings.asked_by_meaning.Goals as goal

pub returns : goal.returns
returns c = record {
  greeting = greeting_asked;
  finish = finish_asked;
  context_type = context_type_asked;
  name = name_asked;
  interface_version = interface_version_asked;
  sync = sync_asked;
  disconnect = disconnect_asked;
  pong = pong_asked;
  seat_release = seat_release_asked;
  bind = bind_asked;
  request_device = request_device_asked;
  device_release = device_release_asked;
  start = start_asked;
  stop = stop_asked;
  frame = frame_asked;
  ready = ready_asked;
  interface = λ k i m x h o. its_interface k m x i h o;
  no_device = λ k m x h o. (its_kind k m x h o).0;
  owned = λ k m x h o. (its_kind k m x h o).1;
}
