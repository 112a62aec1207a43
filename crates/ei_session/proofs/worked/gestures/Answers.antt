use Rattle.std.proofs.Common.{refl}
use Rattle.ei_session.proofs.AllOpen.{all_open}
use Rattle.ei_session.proofs.worked.gestures.Goals as goal

pub returns : goal.returns
unfolding all_open
returns c = record { answer = refl; longest_reply = refl; replies = refl; requests = refl }
