use Rattle.reis_lines.proofs.HeldLaws.{scan_finds, scan_finds_none, scan_buffer, scan_buffer_none}
use Rattle.reis_lines.proofs.held.Held.newline.Goals as goal

pub invariant_of-self : goal.invariant_of-self
invariant_of-self c = scan_buffer _ _ _ _ _ c.self.invariant (rw c.deref.ensures.value at c.in-Some.ensures)

pub invariant_of-self-in-None : goal.invariant_of-self-in-None
invariant_of-self-in-None c = scan_buffer_none _ _ _ _ c.self.invariant (rw c.deref.ensures.value at c.in-None.ensures)

pub returns-in-Some-clause-found : goal.returns-in-Some-clause-found
returns-in-Some-clause-found c = rw (← c.self.view_is) (scan_finds _ _ _ _ _ c.self.invariant (rw c.deref.ensures.value at c.in-Some.ensures))

pub returns-in-None-clause-found : goal.returns-in-None-clause-found
returns-in-None-clause-found c = rw (← c.self.view_is) (scan_finds_none _ _ _ _ c.self.invariant (rw c.deref.ensures.value at c.in-None.ensures))
