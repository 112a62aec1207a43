use Rattle.std.proofs.Common.{sym, refl}
use Rattle.ei_event.proofs.Unwritten.{unwritten}
use Rattle.ei_event.proofs.Setup.{not_added}
use Rattle.ei_event.proofs.kept_device.added_mut.Goals as goal

pub returns-else-added : goal.returns-else-added
returns-else-added c =
    let found = sym c.in-Some.ensures.value in (
      rw (unwritten c.args.devices.now c.args.id c.in-Some.device.now found) refl,
      record {
        writes_back = tt;
        value = not_added _ c.in-Some.device.now found (sym c.if-added.ensures);
      },
    )
