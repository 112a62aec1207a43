use Rattle.ei_shaking.proofs.Raws.{settled_raws}
use Rattle.ei_shaking.proofs.Collecting.{told_versions}
use Rattle.ei_shaking.proofs.MaySend.{greeting_may, settled_may}
use Rattle.ei_shaking.proofs.laws.server_messages.Goals as goal

pub returns : goal.returns
returns c = record { bytes = settled_raws; may_begin = greeting_may; may_settle = settled_may; versions = told_versions }
