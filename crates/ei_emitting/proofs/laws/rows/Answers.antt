use Rattle.std.proofs.Common.{refl}
use Rattle.ei_spec.specs.History.{last_said, occurs, total, joined, since}
use Rattle.ei_spec.specs.Groups.{closes, input_of as waiting_in, group, timed, makes_frame, frames_made, with_frame, gives, grouped}
use Rattle.ei_session.specs.Devices.{interfaces_of}
use Rattle.ei_emitting.specs.Emitted.{count, next_device, added, is_held, steps_on, serial, input_of, is_bad, bad_from, slots_at, slots, emitted}
use Rattle.ei_emitting.proofs.laws.rows.Goals as goal

pub returns : goal.returns
unfolding last_said occurs total joined since closes waiting_in group timed makes_frame frames_made with_frame gives grouped interfaces_of count next_device added is_held steps_on serial input_of is_bad bad_from slots_at slots emitted
returns c = (refl, refl, refl, refl)
