use Rattle.ei_acts.proofs.Sending.{sync_sends, seat_release_sends, interface_release_sends}
use Rattle.ei_acts.proofs.laws.answering.Goals as goal

pub returns : goal.returns
returns c = record {
  sync = sync_sends;
  seat_release = seat_release_sends;
  interface_release = interface_release_sends;
}
