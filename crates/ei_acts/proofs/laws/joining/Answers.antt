use Rattle.std.proofs.Common.{true}
use Rattle.ei_acts.proofs.Joining.{joined_after, act_joined, act_sent}
use Rattle.ei_ends.proofs.Known.{announced_onto}
use Rattle.ei_acts.proofs.laws.joining.Goals as goal

pub returns : goal.returns
returns c = record {
  act = act_joined;
  sends = joined_after;
  sent = act_sent;
  announced = λ ms sent k o a. announced_onto true ms sent o.id _ a;
}
