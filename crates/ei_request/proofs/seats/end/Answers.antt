use Rattle.std.proofs.Common.{[], arith}
use Rattle.ei_request.specs.Costs.{done_cost}
use Rattle.ei_request.proofs.Rooms.{ok_at}
use Rattle.ei_request.proofs.Spending.{spends_sent}
use Rattle.ei_request.proofs.seats.end.Goals as goal

pub returns-clause-spends : goal.returns-clause-spends
returns-clause-spends c =
    spends_sent done_cost _ _ c.args.seat.now.id 3 [] (ok_at c.done.result c.unwrap.result c.unwrap.ensures c.done.ensures.sends.ok) (omega arith) (omega arith)
