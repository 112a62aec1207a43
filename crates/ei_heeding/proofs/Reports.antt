-- A group that is handed out, as the definitions see it.
use Rattle.std.proofs.Common.{◌≡◌, ℕ, List, [], ◌∷◌, ◌++◌, refl, ap, ◌∙◌}
use Rattle.std.specs.Prelude.{map}
use Rattle.ei_spec.specs.Groups.{Timed, Framed}
use Rattle.ei_input.specs.declared.input_event.InputEvent.{InputEvent}
use Rattle.ei_input.specs.declared.input_event.InputEvent.TheVariants as input
use Rattle.ei_reported.specs.Reported.{Report}
use Rattle.ei_following.specs.Core.{group_given}
use Rattle.ei_event.specs.Keys.{DeviceKey}
use Rattle.ei_event.specs.declared.event.EiEvent.TheVariants as told
use Rattle.ei_event.specs.Event.{timed}
use Rattle.ei_event.specs.Core.{ids_of, report_of}
use Rattle.ei_event.specs.Handling.{group_events}
use Rattle.ei_heeding.proofs.Seen.{map_joined}

report_timed : (d : DeviceKey) (t : ℕ) (i : InputEvent) → report_of (timed d t i) ≡ Timed (ids_of d) i t
report_timed d t (input.PointerMotion dx dy) = refl
report_timed d t (input.PointerMotionAbsolute x y) = refl
report_timed d t (input.Button button state) = refl
report_timed d t (input.ScrollDelta dx dy) = refl
report_timed d t (input.ScrollStop x y) = refl
report_timed d t (input.ScrollCancel x y) = refl
report_timed d t (input.ScrollDiscrete x y) = refl
report_timed d t (input.KeyboardKey key state) = refl
report_timed d t (input.TouchDown touch x y) = refl
report_timed d t (input.TouchMotion touch x y) = refl
report_timed d t (input.TouchUp touch) = refl
report_timed d t (input.TouchCancel touch) = refl
report_timed d t (input.TextKeysym keysym state) = refl
report_timed d t (input.TextUtf8 text) = refl
report_timed d t (input.GestureSwipe fingers x y) = refl
report_timed d t (input.GesturePinch scale) = refl

reports_timed : (d : DeviceKey) (t : ℕ) (is : List InputEvent) → map report_of (map (timed d t) is) ≡ map (λ y. Timed (ids_of d) y t) is
reports_timed d t [] = refl
reports_timed d t (i ∷ is) = ap (λ (r : Report). r ∷ map report_of (map (timed d t) is)) (report_timed d t i) ∙ ap (λ (rs : List Report). Timed (ids_of d) i t ∷ rs) (reports_timed d t is)

pub reports_group : (d : DeviceKey) (is : List InputEvent) (serial time : ℕ) → map report_of (group_events d is serial time) ≡ group_given (ids_of d) is serial time
reports_group d [] serial time = refl
reports_group d (i ∷ is) serial time =
    map_joined report_of (map (timed d time) (i ∷ is)) (told.Frame (record { device = d; serial = serial; time = time }) ∷ [])
    ∙ ap (λ (rs : List Report). rs ++ Framed (ids_of d) serial time ∷ []) (reports_timed d time (i ∷ is))
