use Rattle.ei_backend.proofs.NextIs.{reads, gone, waits, few_left}
use Rattle.ei_backend.proofs.laws.next_messages.Goals as goal

pub returns : goal.returns
returns c = record { reads = reads; gone = gone; waits = waits; few_left = few_left }
