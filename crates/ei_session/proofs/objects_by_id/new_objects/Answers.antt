use Rattle.ei_session.proofs.NewObjects.{new_device_is, new_interface_is, older_same}
use Rattle.ei_session.proofs.objects_by_id.new_objects.Goals as goal

pub returns : goal.returns
returns c = record {
  device = new_device_is;
  interface = λ before m mask k i h. new_interface_is before m mask h k i;
  older = λ before m mask id h. older_same before m mask h id;
}
