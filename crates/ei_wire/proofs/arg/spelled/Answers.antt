use Rattle.ei_wire.proofs.TakenBytes.{begins}
use Rattle.ei_wire.proofs.arg.spelled.Goals as goal

pub returns : goal.returns
returns g c = λ s t v h e. begins g.T.OwnedArg.kind v s t h e
