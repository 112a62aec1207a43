use Rattle.reis_alike.proofs.Running.{starts}
use Rattle.reis_alike.proofs.Cutting.{one_cut}
use Rattle.reis_alike.proofs.laws.beginning.Goals as goal

pub returns : goal.returns
returns c = record { starts = starts; cut = one_cut }
