use Rattle.reis_alike.proofs.AsServe.{same}
use Rattle.reis_alike.proofs.laws.as_serve.Goals as goal

pub returns : goal.returns
returns c = record { same = same }
