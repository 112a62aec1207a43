use Rattle.ei_spec.proofs.LastsLaws.{found, shown}
use Rattle.ei_spec.proofs.laws.lasting.Goals as goal

pub returns : goal.returns
returns g c = record { found = found; shown = shown }
