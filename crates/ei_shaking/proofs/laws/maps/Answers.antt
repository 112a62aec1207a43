use Rattle.ei_shaking.proofs.Collecting.{collected_all, told_only}
use Rattle.ei_shaking.proofs.laws.maps.Goals as goal

pub returns : goal.returns
returns c = record { settled = told_only; collected = collected_all }
