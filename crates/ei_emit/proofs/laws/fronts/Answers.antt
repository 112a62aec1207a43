-- A front of the steps gives a front of what is told.
use Rattle.ei_emit.proofs.Fronts.{emitted_prefix}
use Rattle.ei_emit.proofs.laws.fronts.Goals as goal

pub returns : goal.returns
returns c = emitted_prefix
