use Rattle.std.proofs.Common.{refl}
use Rattle.ei_session.specs.NextIds.{next_own, callbacks, next_peer}
use Rattle.ei_session.proofs.AllOpen.{all_open}
use Rattle.ei_session.proofs.worked_told.given_ids.Goals as goal

pub returns : goal.returns
unfolding all_open next_own callbacks next_peer
returns c = record { first = refl; connected = refl; device = refl; peer = refl; synced = refl; refused = refl }
