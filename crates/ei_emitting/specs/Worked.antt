-- The rows: scripts, and what the client is told of them.
use Rattle.std.specs.Prelude.{◌≡◌, List, [], ◌∷◌, ◌++◌, Some}
use Rattle.ei_spec.specs.declared.interface.KnownInterface.TheVariants as known
use Rattle.ei_spec.specs.Value.{Word}
use Rattle.ei_spec.specs.Groups.{Timed, Framed, Plain as Told}
use Rattle.ei_types.specs.declared.enums.ButtonState.TheVariants as button_state
use Rattle.ei_input.specs.declared.input_event.InputEvent.TheVariants.{Button}
use Rattle.ei_session.specs.Setup.{seat_id}
use Rattle.ei_reported.specs.Reported.{Device, Report, SeatAdded, DeviceAdded, DeviceRemoved, DeviceResumed, DeviceStartEmulating}
use Rattle.ei_emitting.specs.Emitted.{Step, Add, Remove, Start, Frame, Inputs, emitted, bad_from}

abbrev pub the_device : Device
the_device = record { seat = seat_id; id = 0xff00000000000002 }

abbrev pub pressed : Step
pressed = Inputs 0 known.Button 1 (Word 272 ∷ Word 1 ∷ [])

-- the seat, and the device that is added first
abbrev pub added_first : List Report
added_first = Told (SeatAdded seat_id) ∷ Told (DeviceAdded the_device) ∷ Told (DeviceResumed the_device 6) ∷ []

-- the newest step first: a group in its frame; a group that the removal closes; a frame alone; a start after the removal is bad
abbrev pub Rows : Type 0
Rows =
    (emitted 5 [] (Remove 0 ∷ Frame 0 9 ∷ pressed ∷ Start 0 1 ∷ Add 32 ∷ [])
    ≡ added_first ++ (Told (DeviceStartEmulating the_device 7 1) ∷ Timed the_device (Button 272 button_state.Press) 9 ∷ Framed the_device 8 9 ∷ Told (DeviceRemoved the_device) ∷ []))
    × (emitted 5 (77 ∷ []) (Remove 0 ∷ pressed ∷ Add 32 ∷ []) ≡ added_first ++ (Timed the_device (Button 272 button_state.Press) 77 ∷ Framed the_device 8 77 ∷ Told (DeviceRemoved the_device) ∷ []))
    × (emitted 5 [] (Frame 0 9 ∷ Add 32 ∷ []) ≡ added_first)
    × (bad_from [] (Add 32 ∷ Remove 0 ∷ Start 0 0 ∷ []) ≡ Some 2)
