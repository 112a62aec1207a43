use Rattle.ei_backend.proofs.TypedRead.{written, typed_read, once}
use Rattle.ei_backend.proofs.laws.typed_messages.Goals as goal

pub returns : goal.returns
returns c = record { written = written; read = typed_read; once = once }
