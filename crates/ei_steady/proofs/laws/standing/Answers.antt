use Rattle.ei_steady.proofs.StandsOn.{begins, less, both}
use Rattle.ei_steady.proofs.Going.{one_of}
use Rattle.ei_steady.proofs.laws.standing.Goals as goal

pub returns : goal.returns
returns c = record {
  begins = begins;
  less = less;
  one = one_of;
  both = both;
}
