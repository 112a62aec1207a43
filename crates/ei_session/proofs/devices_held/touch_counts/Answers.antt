use Rattle.ei_session.proofs.TouchCounts.{down_distinct, down_members, down_count}
use Rattle.ei_session.proofs.devices_held.touch_counts.Goals as goal

pub returns : goal.returns
returns c = record { distinct = down_distinct; members = down_members; count = down_count }
