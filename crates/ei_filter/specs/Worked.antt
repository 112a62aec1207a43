-- The rows: what passes where touch 4 may not begin, where all may, and at half the time.
use Rattle.std.specs.Prelude.{◌≡◌, ℕ, true, not, ◌==◌, List, [], ◌∷◌}
use Rattle.ei_spec.specs.Groups.{Timed, Framed}
use Rattle.ei_types.specs.declared.enums.ButtonState.TheVariants as button_state
use Rattle.ei_input.specs.declared.input_event.InputEvent.TheVariants as input_event
use Rattle.ei_input.specs.Inputs.{float}
use Rattle.ei_session.specs.Requests.{Request}
use Rattle.ei_filter.specs.Sifted.{Test, sifted}

abbrev pub the_device : ℕ
the_device = 0xff00000000000002

abbrev pub not_four : Test
not_four (Timed d (input_event.TouchDown t x y) time) = not (t == 4)
not_four item = true

abbrev pub down : ℕ → ℕ → Request
down touch time = Timed the_device (input_event.TouchDown touch (float 0) (float 0)) time

abbrev pub up : ℕ → ℕ → Request
up touch time = Timed the_device (input_event.TouchUp touch) time

abbrev pub framed_at : ℕ → Request
framed_at time = Framed the_device 6 time

abbrev pub touched : List Request
touched = down 4 1 ∷ down 5 1 ∷ framed_at 1 ∷ up 4 2 ∷ framed_at 2 ∷ []

abbrev pub Rows : Type 0
Rows =
    (sifted (not_four ∷ []) (1 ∷ []) touched ≡ down 5 1 ∷ framed_at 1 ∷ [])
    × (sifted [] (1 ∷ 2 ∷ []) touched ≡ touched)
    × (sifted [] (4 ∷ []) (Timed the_device (input_event.Button 272 button_state.Press) 9 ∷ framed_at 9 ∷ []) ≡ Timed the_device (input_event.Button 272 button_state.Press) 4 ∷ framed_at 4 ∷ [])
