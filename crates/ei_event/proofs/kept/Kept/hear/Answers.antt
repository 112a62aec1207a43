use Rattle.std.proofs.Common.{rules, sym}
use Rattle.ei_event.proofs.Setup.{no_memory_ends, unheard_memory}
use Rattle.ei_event.proofs.kept.Kept.hear.Goals as goal

pub returns-in_err-hear-in-Some-added_mut : goal.returns-in_err-hear-in-Some-added_mut
returns-in_err-hear-in-Some-added_mut c = rw c.in-Some.ensures.kept (rw (← c.self.view_is) (no_memory_ends _ c.from_residual.result (search rules)
    (unheard_memory _ c.args.id c.in-Some.device c.in-Some-added_mut.device.now c.hear.new.self (sym c.in-Some.ensures.owner) (sym c.in-Some-added_mut.ensures.value) c.in_err-hear-in-Some-added_mut.ensures.err)))
