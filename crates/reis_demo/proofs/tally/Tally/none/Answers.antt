use Rattle.std.proofs.Common.{refl}
use Rattle.reis_demo.proofs.tally.Tally.none.Goals as goal

pub returns : goal.returns
returns c = record { requests = refl; inputs = refl }
