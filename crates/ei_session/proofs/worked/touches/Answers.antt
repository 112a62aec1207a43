use Rattle.std.proofs.Common.{refl}
use Rattle.ei_session.proofs.AllOpen.{all_open}
use Rattle.ei_session.proofs.worked.touches.Goals as goal

pub returns : goal.returns
unfolding all_open
returns c = record { sixteen = refl; too_many = refl; again = refl; again_too_many = refl; duplicated = refl; cancelled = refl; old = refl; unheard = refl }
