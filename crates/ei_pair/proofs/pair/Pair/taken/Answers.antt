-- What was taken agrees with what was sent, and the pair keeps what it keeps at any time.
use Rattle.std.proofs.Common.{subst}
use Rattle.ei_promises.specs.Pair.{PairView}
use Rattle.ei_pair.specs.Stepped.{IsKept}
use Rattle.ei_pair.proofs.MovedOn.{agrees_at}
use Rattle.ei_pair.proofs.pair.Pair.taken.Goals as goal

pub returns-clause-agrees : goal.returns-clause-agrees
returns-clause-agrees g c = rw (← c.self.view_is) (agrees_at c.args.side _ c.self.invariant.sound.kept.pair.world)

pub returns-clause-keeps : goal.returns-clause-keeps
returns-clause-keeps g c = subst (λ (p : PairView g.row.H.Denot). IsKept p) c.self.view_is c.self.invariant.sound.kept
