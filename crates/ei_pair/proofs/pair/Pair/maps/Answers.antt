-- Both ends settled the same, and the handshakes complete.
use Rattle.std.proofs.Common.{subst}
use Rattle.ei_promises.specs.Pair.{PairView}
use Rattle.ei_promises.specs.Promises.{SettlesTheSame, Completes}
use Rattle.ei_pair.specs.Parts.{pair_in}
use Rattle.ei_pair.specs.Done.{TellsDone}
use Rattle.ei_pair.proofs.pair.Pair.maps.Goals as goal

pub returns-clause-same : goal.returns-clause-same
returns-clause-same g c = subst (λ (p : PairView g.row.H.Denot). SettlesTheSame p) c.self.view_is (c.promises.ensures.same (pair_in c.self.inside.parts) c.self.invariant.sound.kept.keeps)

pub returns-clause-completes : goal.returns-clause-completes
returns-clause-completes g c = subst (λ (p : PairView g.row.H.Denot). Completes p) c.self.view_is (c.promises.ensures.completes (pair_in c.self.inside.parts) c.self.invariant.sound.kept.keeps)

pub returns-clause-told : goal.returns-clause-told
returns-clause-told g c = subst (λ (p : PairView g.row.H.Denot). TellsDone p) c.self.view_is c.self.invariant.tells
