use Rattle.ei_shaking.proofs.GoingOn.{begins, server_takes, client_takes, server_later, client_later}
use Rattle.ei_shaking.proofs.laws.going_on.Goals as goal

pub returns : goal.returns
returns c = record { begins = begins; server_takes = server_takes; client_takes = client_takes; server_later = server_later; client_later = client_later }
