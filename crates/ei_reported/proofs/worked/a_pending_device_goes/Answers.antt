use Rattle.std.proofs.Common.{refl}
use Rattle.ei_reported.proofs.AllOpen.{all_open}
use Rattle.ei_reported.proofs.worked.a_pending_device_goes.Goals as goal

pub returns : goal.returns
unfolding all_open
returns c = record { told = λ h. refl; refused = λ h. refl; serial = λ h. refl }
