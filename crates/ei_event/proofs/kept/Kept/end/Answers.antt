use Rattle.std.proofs.Common.{rules, sym}
use Rattle.ei_event.proofs.Unwritten.{unwritten}
use Rattle.ei_event.proofs.Setup.{added_found}
use Rattle.ei_event.proofs.kept.Kept.end.Goals as goal

pub returns-in_err-reserve_group-in-Some-clause-err : goal.returns-in_err-reserve_group-in-Some-clause-err
returns-in_err-reserve_group-in-Some-clause-err g c =
    rw (unwritten c.self.inside.devices c.args.id c.in-Some.device.now (added_found _ _ (sym c.in-Some.ensures.value)), ← c.self.view_is) (search rules)
