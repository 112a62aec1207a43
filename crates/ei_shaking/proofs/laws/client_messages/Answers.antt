use Rattle.ei_shaking.proofs.Raws.{asked_raws}
use Rattle.ei_shaking.proofs.MaySend.{asked_sends, asked_may, name_is_short}
use Rattle.ei_shaking.proofs.laws.client_messages.Goals as goal

pub returns : goal.returns
returns c = record { bytes = asked_raws; sends = asked_sends; may_send = asked_may; short = name_is_short }
