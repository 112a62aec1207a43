use Rattle.std.proofs.Common.{rules, sym}
use Rattle.ei_event.proofs.Setup.{no_memory_ends, device_stays}
use Rattle.ei_event.proofs.kept.Kept.device_has_region.Goals as goal

pub returns-in_err-push_region-in-Some : goal.returns-in_err-push_region-in-Some
returns-in_err-push_region-in-Some c = rw (← c.self.view_is) (no_memory_ends _ c.from_residual.result (search rules)
    (device_stays _ c.args.id c.in-Some.device.now c.push_region.new.self (sym c.in-Some.ensures.value) c.in_err-push_region-in-Some.ensures.err))
