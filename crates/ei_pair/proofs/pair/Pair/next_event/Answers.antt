-- What is queued first is handed out, as the parts say.
use Rattle.ei_pair.specs.Parts.{pair_in}
use Rattle.ei_pair.proofs.Consistent.{event_taken}
use Rattle.ei_pair.proofs.pair.Pair.next_event.Goals as goal

pub next_event-requires : goal.next_event-requires
next_event-requires g c = record { sound = c.self.invariant.sound }

pub invariant_of-self : goal.invariant_of-self
invariant_of-self g c = record { sound = c.next_event.ensures.sound; tells = event_taken c.calls_by_lists.ensures.event (pair_in c.self.inside.parts) (pair_in c.next_event.new.self) c.next_event.ensures.rest c.self.invariant.tells }

pub returns-clause-first : goal.returns-clause-first
returns-clause-first g c = rw (← c.self.view_is) c.next_event.ensures.first

pub returns-clause-rest : goal.returns-clause-rest
returns-clause-rest g c = rw (← c.self.view_is) c.next_event.ensures.rest
