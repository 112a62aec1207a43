use Rattle.ei_acts.proofs.HeldAnnounced.{held_device_object, held_seat_object}
use Rattle.ei_acts.proofs.laws.naming.Goals as goal

pub returns : goal.returns
returns c = record { device = held_device_object; seat = held_seat_object }
