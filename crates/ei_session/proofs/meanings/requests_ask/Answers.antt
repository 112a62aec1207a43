use Rattle.ei_session.proofs.RowsMean.{asks_means}
use Rattle.ei_session.proofs.ReadsMean.{means_row, means_something}
use Rattle.ei_session.proofs.meanings.requests_ask.Goals as goal

pub returns : goal.returns
returns c = record { row = asks_means; only = means_row; reads = means_something }
