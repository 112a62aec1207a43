use Rattle.std.proofs.Common.{refl}
use Rattle.ei_session.proofs.AllOpen.{all_open}
use Rattle.ei_session.proofs.worked.callbacks.Goals as goal

pub returns : goal.returns
unfolding all_open
returns c = record { called = refl; again = refl; last = refl; after_last = refl; own = refl; zero = refl; version = refl }
