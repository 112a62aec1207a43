use Rattle.ei_session.proofs.WaitingLaws.{touch_down, touch_up, touch_cancel, touch_none}
use Rattle.ei_session.proofs.all_requests.touches_after.Goals as goal

pub returns : goal.returns
returns c = record { down = touch_down; up = touch_up; cancel = touch_cancel; none = touch_none }
