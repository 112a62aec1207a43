use Rattle.ei_emitting.proofs.Reading.{read_object, read_nothing}
use Rattle.ei_emitting.proofs.laws.reading.Goals as goal

pub returns : goal.returns
returns c = record {
  some = read_object;
  none = read_nothing;
}
