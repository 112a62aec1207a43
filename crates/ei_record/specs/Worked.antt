-- The rows: which lists can be played back, and where others can't.
use Rattle.std.specs.Prelude.{◌≡◌, ℕ, [], ◌∷◌, Some, None}
use Rattle.ei_spec.specs.Groups.{Timed, Framed, Plain as Given}
use Rattle.ei_types.specs.declared.enums.ButtonState.TheVariants as button_state
use Rattle.ei_input.specs.declared.input_event.InputEvent.TheVariants as input_event
use Rattle.ei_session.specs.Setup.{Setup, seat_id}
use Rattle.ei_session.specs.Requests.{Request, Bind, Ready, Disconnect}
use Rattle.ei_record.specs.Replayable.{first_wrong}

abbrev pub the_setup : Setup
the_setup = record { serial = 5; capabilities = 32; pieces = 200 }

abbrev pub the_device : ℕ
the_device = 0xff00000000000002

abbrev pub bound : Request
bound = Given (Bind seat_id 32)

abbrev pub pressed : ℕ → Request
pressed time = Timed the_device (input_event.Button 272 button_state.Press) time

abbrev pub framed_at : ℕ → Request
framed_at time = Framed the_device 6 time

-- a press in its frame; the same before it is ready; a frame alone; a frame of another time
abbrev pub Rows : Type 0
Rows =
    (first_wrong the_setup (bound ∷ pressed 9 ∷ framed_at 9 ∷ Given Disconnect ∷ []) ≡ None)
    × (first_wrong the_setup (bound ∷ pressed 77 ∷ framed_at 77 ∷ Given (Ready the_device) ∷ Given Disconnect ∷ []) ≡ None)
    × (first_wrong the_setup (framed_at 9 ∷ []) ≡ Some 0)
    × (first_wrong the_setup (bound ∷ pressed 9 ∷ framed_at 10 ∷ []) ≡ Some 1)
