use Rattle.std.proofs.Common.{refl}
use Rattle.ei_session.proofs.AllOpen.{all_open}
use Rattle.ei_session.proofs.worked.texts.Goals as goal

pub returns : goal.returns
unfolding all_open
returns c = record { longest = refl; too_long = refl; empty = refl }
