use Rattle.std.proofs.Common.{refl}
use Rattle.ei_session.specs.Complete.{disconnects, needed}
use Rattle.ei_session.proofs.AllOpen.{all_open}
use Rattle.ei_session.proofs.worked_told.needed_pieces.Goals as goal

pub returns : goal.returns
unfolding all_open disconnects needed
returns c = record { disconnect = refl; all = refl; refused = refl; none = refl }
