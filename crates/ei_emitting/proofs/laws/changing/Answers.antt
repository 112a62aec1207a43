use Rattle.ei_emitting.proofs.Adding.{adds}
use Rattle.ei_emitting.proofs.Removing.{removes}
use Rattle.ei_emitting.proofs.laws.changing.Goals as goal

pub returns : goal.returns
returns c = record {
  adds = adds;
  removes = removes;
}
