use Rattle.ei_serve.proofs.BetweenTurns.{most_held}
use Rattle.ei_serve.proofs.session.Session.buffer_capacity.Goals as goal

pub returns-clause-most : goal.returns-clause-most
returns-clause-most c = rw c.ring_capacity.ensures (most_held c.self.inside.state c.self.invariant)
