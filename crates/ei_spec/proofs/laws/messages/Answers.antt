use Rattle.ei_spec.proofs.FrontLaws.{front_again, front_bytes, whole_more}
use Rattle.ei_spec.proofs.Cuts.{size_is, cut_short, short_below}
use Rattle.ei_spec.proofs.laws.messages.Goals as goal

pub returns : goal.returns
returns c = record {
  found = front_again;
  spelled = λ bytes m rest h e. (front_bytes bytes m rest h e).0;
  lawful = λ bytes m rest h e. (front_bytes bytes m rest h e).1;
  more = whole_more;
  size = size_is;
  cut = cut_short;
  short = short_below;
}
