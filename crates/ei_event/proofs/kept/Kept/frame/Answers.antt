use Rattle.std.proofs.Common.{rules, sym}
use Rattle.ei_event.proofs.Setup.{no_memory_ends, unframed}
use Rattle.ei_event.proofs.kept.Kept.frame.Goals as goal

pub returns-in_err-reserve_group-in-Some : goal.returns-in_err-reserve_group-in-Some
returns-in_err-reserve_group-in-Some c = rw (← c.self.view_is) (no_memory_ends _ c.from_residual.result (search rules)
    (unframed _ c.args.id c.in-Some.device.now c.reserve_group.new.self.items (sym c.in-Some.ensures.value) c.in_err-reserve_group-in-Some.ensures.items))
