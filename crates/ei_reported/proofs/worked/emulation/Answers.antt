use Rattle.std.proofs.Common.{refl}
use Rattle.ei_reported.proofs.AllOpen.{all_open}
use Rattle.ei_reported.proofs.worked.emulation.Goals as goal

pub returns : goal.returns
unfolding all_open
returns c = record { told = refl; refused = refl; serial = refl }
