use Rattle.std.proofs.Common.{true, false}
use Rattle.ei_session.proofs.NextLaws.{peer_first, peer_sync, peer_accepted, peer_other, peer_most, may_give_by, bad_id_by, sync_refusal}
use Rattle.ei_session.proofs.next.peer_ids.Goals as goal

pub returns : goal.returns
returns c = record {
  first = peer_first;
  sync = peer_sync;
  accepted = peer_accepted;
  other = peer_other;
  most = peer_most;
  may_give = may_give_by;
  refused = bad_id_by;
  sync_refused = λ setup before m callback v on at h g. sync_refusal setup before m callback v false on at h g;
  sync_taken = λ setup before m callback v on at h g. sync_refusal setup before m callback v true on at h g;
}
