use Rattle.ei_filter.proofs.SiftedRight.{sifted_right}
use Rattle.ei_filter.proofs.laws.sifted_right.Goals as goal

pub returns : goal.returns
returns c = sifted_right
