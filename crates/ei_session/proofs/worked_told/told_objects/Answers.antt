use Rattle.std.proofs.Common.{refl}
use Rattle.ei_spec.specs.Interface.{known_of}
use Rattle.ei_session.specs.Told.{told, destroys}
use Rattle.ei_session.proofs.AllOpen.{all_open}
use Rattle.ei_session.proofs.worked_told.told_objects.Goals as goal

pub returns : goal.returns
unfolding all_open known_of told destroys
returns c = record { at_first = refl; handed_over = refl; connection = refl; seat = refl; not_yet = refl; device = refl; interface = refl; there = refl; gone = refl; device_there = refl; all_gone = refl; connection_there = refl; seat_gone = refl; own = refl; called = refl }
