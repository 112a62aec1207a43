use Rattle.ei_standing.proofs.TypedMeanings.{meant}
use Rattle.ei_standing.proofs.connections.meanings.Goals as goal

pub returns : goal.returns
returns c = record { asks = λ m r o a. meant m r (record { opcode = o; args = a }) }
