use Rattle.ei_session.proofs.GivenByItem.{still_down}
use Rattle.ei_session.proofs.kinds_of_messages.other_inputs.Goals as goal

pub returns : goal.returns
returns c = record { is_down = still_down }
