use Rattle.std.proofs.Common.{[], ◌∷◌, arith}
use Rattle.ei_spec.specs.Value.{Word, Long}
use Rattle.ei_request.specs.Costs.{announced_cost}
use Rattle.ei_request.proofs.Rooms.{ok_at}
use Rattle.ei_request.proofs.Spending.{spends_new}
use Rattle.ei_request.proofs.seats.begin.Goals as goal

pub returns-clause-spends : goal.returns-clause-spends
returns-clause-spends c =
    spends_new announced_cost _ _ c.args.connection.now.id 1 (Long c.args.ctx.now.table.next_own ∷ Word c.args.version ∷ []) _ _
    (ok_at c.seat.result c.unwrap.result c.unwrap.ensures c.seat.ensures.sends.ok) (omega arith) (omega arith) (omega arith)
