use Rattle.ei_spec.proofs.KindLaws.{refused}
use Rattle.ei_wire.proofs.arg.no_spelling.Goals as goal

pub returns : goal.returns
returns g c = λ s t v f e b. refused g.T.OwnedArg.kind v s t f e b
