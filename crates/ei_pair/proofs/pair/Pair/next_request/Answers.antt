-- What is queued first is handed out, as the parts say.
use Rattle.ei_pair.specs.Parts.{pair_in}
use Rattle.ei_pair.proofs.Consistent.{request_taken}
use Rattle.ei_pair.proofs.pair.Pair.next_request.Goals as goal

pub next_request-requires : goal.next_request-requires
next_request-requires g c = record { sound = c.self.invariant.sound }

pub invariant_of-self : goal.invariant_of-self
invariant_of-self g c = record { sound = c.next_request.ensures.sound; tells = request_taken c.calls_by_lists.ensures.request (pair_in c.self.inside.parts) (pair_in c.next_request.new.self) c.next_request.ensures.rest c.self.invariant.tells }

pub returns-clause-first : goal.returns-clause-first
returns-clause-first g c = rw (← c.self.view_is) c.next_request.ensures.first

pub returns-clause-rest : goal.returns-clause-rest
returns-clause-rest g c = rw (← c.self.view_is) c.next_request.ensures.rest
