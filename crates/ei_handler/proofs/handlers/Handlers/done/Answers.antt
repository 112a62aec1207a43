use Rattle.std.proofs.Common.{rules}
use Rattle.ei_handler.proofs.Absent.{absent}
use Rattle.ei_handler.proofs.handlers.Handlers.done.Goals as goal

pub returns-then-is_none-clause-gone : goal.returns-then-is_none-clause-gone
returns-then-is_none-clause-gone g c = absent c.args.self.now.waiting c.args.callback
    (let e = c.get.ensures in let f = c.if-is_none.ensures in let h = c.if-is_none.true in search rules)
