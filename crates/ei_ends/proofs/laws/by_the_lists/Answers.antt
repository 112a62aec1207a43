use Rattle.ei_ends.proofs.JoinedSteps.{objects_are, next_id_is}
use Rattle.ei_ends.proofs.ReadingAll.{are_calls, takes_as_listed, waits_for_more}
use Rattle.ei_ends.proofs.laws.by_the_lists.Goals as goal

pub returns : goal.returns
returns c = record {
  may_send = are_calls;
  next_id = next_id_is;
  objects = objects_are;
  takes = λ events x y to_y to_x past ms j all is long handles. (takes_as_listed events x y to_y to_x past ms j all is long handles).taken;
  waits = waits_for_more;
}
