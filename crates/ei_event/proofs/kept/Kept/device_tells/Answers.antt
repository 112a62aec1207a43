use Rattle.std.proofs.Common.{rules, ap}
use Rattle.ei_event.proofs.Setup.{no_memory_does, added_reason}
use Rattle.ei_event.proofs.kept.Kept.device_tells.Goals as goal

pub returns-in_err-end-clause-does : goal.returns-in_err-end-clause-does
returns-in_err-end-clause-does g c = λ told is. no_memory_does c.args.self.now _ _ _ _ _ c.from_residual.result (search rules)
    (added_reason c.args.self.now c.args.id c.in_err-end.ensures.reached) c.in_err-end.ensures.err (ap (λ (x : _). (g.C.Clock.view x).left) c.in_err-end.ensures.kept)
