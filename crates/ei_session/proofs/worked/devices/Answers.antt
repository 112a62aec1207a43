use Rattle.std.proofs.Common.{refl}
use Rattle.ei_session.proofs.AllOpen.{all_open}
use Rattle.ei_session.proofs.worked.devices.Goals as goal

pub returns : goal.returns
unfolding all_open
returns c = record { bound = refl; events = refl; requests = refl; framed = refl; ready = refl; unframed = refl; closed = refl; destroyed = refl; no_mask = refl; no_device = refl; past_all = refl; not_given = refl }
