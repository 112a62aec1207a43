use Rattle.ei_session.proofs.IntroducedOnce.{object_introduced, introduced_once, introduced_below, removed_was}
use Rattle.ei_session.proofs.objects_by_id.objects_introduced.Goals as goal

pub returns : goal.returns
returns c = record { there = object_introduced; once = introduced_once; below = introduced_below; removed = removed_was }
