use Rattle.ei_ends.proofs.EqualHandles.{each_one}
use Rattle.ei_ends.proofs.JoinedSteps.{agrees, times_are, never_refused, handles_in_order, equal, few_handles, all_of_it}
use Rattle.ei_ends.proofs.Same.{same_object}
use Rattle.ei_ends.proofs.Answered.{answered}
use Rattle.ei_ends.proofs.laws.ends.Goals as goal

pub returns : goal.returns
returns c = record {
  agrees = agrees;
  each = each_one;
  times = times_are;
  never_refused = never_refused;
  handles = handles_in_order;
  equal = equal;
  few_handles = few_handles;
  all = all_of_it;
  same = same_object;
  answered = λ events x y to_y to_x a b m n p q r after j. answered events x y to_y to_x j.there j.back a b m n p q r after j.tied;
}
