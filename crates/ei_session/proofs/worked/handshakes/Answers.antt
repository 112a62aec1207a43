use Rattle.std.proofs.Common.{refl}
use Rattle.ei_session.proofs.AllOpen.{all_open}
use Rattle.ei_session.proofs.worked.handshakes.Goals as goal

pub returns : goal.returns
unfolding all_open
returns c = record { nothing = refl; greeted = refl; ends = refl; replies = refl; requests = refl; bytes = refl; limited = refl; handles = λ h. refl; handled = λ h. refl; no_piece = refl; none_came = refl; what_follows = refl; waits = refl; wraps = refl }
