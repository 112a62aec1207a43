use Rattle.std.proofs.Common.{rules, ap, sym}
use Rattle.ei_event.proofs.Setup.{no_memory_does, held_reason}
use Rattle.ei_event.proofs.kept.Kept.modifiers.Goals as goal

pub returns-in_err-end-clause-does : goal.returns-in_err-end-clause-does
returns-in_err-end-clause-does g c = λ depressed locked latched group is. no_memory_does c.args.self.now _ _ _ _ _ c.from_residual.result (search rules)
    (held_reason c.args.self.now c.args.id c.in-Some.device (rw (← c.self.view_is) (sym c.in-Some.ensures)) (search rules)) (search rules) (ap (λ (x : _). (g.C.Clock.view x).left) c.in_err-end.ensures.kept)
