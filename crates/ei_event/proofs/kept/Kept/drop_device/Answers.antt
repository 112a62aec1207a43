use Rattle.std.proofs.Common.{rules}
use Rattle.ei_event.specs.Kept.{is_of_other}
use Rattle.ei_event.proofs.kept.Kept.drop_device.Goals as goal

pub retain-requires-clause-decided : goal.retain-requires-clause-decided
retain-requires-clause-decided c = (is_of_other c.args.id, λ value answer r. search rules)
