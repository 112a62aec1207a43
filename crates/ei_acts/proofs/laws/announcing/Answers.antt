use Rattle.ei_acts.proofs.HeldAnnounced.{fresh_held, held_more, act_held}
use Rattle.ei_acts.proofs.Joining.{act_may, announced_joined, announced_sent, announced_same}
use Rattle.ei_acts.proofs.laws.announcing.Goals as goal

pub returns : goal.returns
returns c = record {
  fresh = fresh_held;
  more = held_more;
  act = λ x old new a e h m. act_held x old new e h a m;
  may = act_may;
  joined = announced_joined;
  sent = announced_sent;
  same = announced_same;
}
