use Rattle.ei_promises.proofs.Called.{server_stays, server_answers}
use Rattle.ei_promises.proofs.laws.calling.Goals as goal

pub returns : goal.returns
returns c = record { called = server_stays; answered = server_answers }
