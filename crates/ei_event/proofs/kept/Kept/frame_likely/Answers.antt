use Rattle.std.proofs.Common.{refl, sym}
use Rattle.ei_event.proofs.Setup.{unframed}
use Rattle.ei_event.proofs.kept.Kept.frame_likely.Goals as goal

pub returns-then-not-fits_group : goal.returns-then-not-fits_group
returns-then-not-fits_group c = rw (← c.self.view_is) (unframed _ c.args.id c.in-Some.device.now _ (sym c.in-Some.ensures.value) refl).1
