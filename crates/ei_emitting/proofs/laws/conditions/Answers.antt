use Rattle.ei_emitting.proofs.Conditions as conditions
use Rattle.ei_emitting.proofs.laws.conditions.Goals as goal

pub returns : goal.returns
returns c = record {
  seat = conditions.seat;
  new = conditions.new;
  device = conditions.device;
  input = conditions.input;
  object = conditions.object_of;
  row = conditions.row;
  ids = conditions.ids;
}
