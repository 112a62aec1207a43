use Rattle.ei_request.proofs.Rooms.{ok_at}
use Rattle.ei_request.proofs.Spending.{spends_destroyed}
use Rattle.ei_request.proofs.sending.destroy_within.Goals as goal

pub returns-clause-spends : goal.returns-clause-spends
returns-clause-spends c = spends_destroyed c.args.ctx.now c.destroy.new.ctx c.args.id c.args.serial (ok_at c.destroy.result c.unwrap.result c.unwrap.ensures c.destroy.ensures.ok)
