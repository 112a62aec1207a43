-- The messages to an interface of a device that are inputs, the same at both ends.
use Rattle.std.specs.Prelude.{ℕ, not, List, [], ◌∷◌, Option, Some, None, ◌==◌, if◌then◌else◌, codes}
use Rattle.ei_spec.specs.declared.interface.KnownInterface.{KnownInterface}
use Rattle.ei_spec.specs.declared.interface.KnownInterface.TheVariants as known
use Rattle.ei_spec.specs.Value.{Value, Signed}
use Rattle.ei_spec.specs.FromValues.{first, one, two, three, text}
use Rattle.ei_types.specs.declared.enums.ButtonState.{ButtonState}
use Rattle.ei_types.specs.declared.enums.ButtonState.TheVariants as button_state
use Rattle.ei_types.specs.declared.enums.KeyState.{KeyState}
use Rattle.ei_types.specs.declared.enums.KeyState.TheVariants as key_state
use Rattle.ei_wire.specs.declared.arg.RawFloat.{RawFloat}
use Rattle.ei_input.specs.declared.input_event.InputEvent.{InputEvent}
use Rattle.ei_input.specs.declared.input_event.InputEvent.TheVariants as input_event

-- a float of these bits
abbrev pub float : ℕ → RawFloat
float bits = record { 0 = bits }

-- the state of a button by its number
abbrev pub button_of : ℕ → ButtonState
button_of number = if number == 0 then button_state.Released else button_state.Press

-- the state of a key by its number
abbrev pub key_of : ℕ → KeyState
key_of number = if number == 0 then key_state.Released else key_state.Press

-- two floats
abbrev pub floats : (RawFloat → RawFloat → InputEvent) → ℕ → ℕ → InputEvent
floats make x y = make (float x) (float y)

-- a number and two floats: a touch and its point, or fingers and a distance
abbrev pub touching : (ℕ → RawFloat → RawFloat → InputEvent) → ℕ → ℕ → ℕ → InputEvent
touching make touch x y = make touch (float x) (float y)

-- the end of a scroll, which may be called off
abbrev pub scroll_end : ℕ → ℕ → ℕ → InputEvent
scroll_end x y is_cancel =
    if is_cancel == 0 then input_event.ScrollStop (not (x == 0)) (not (y == 0)) else input_event.ScrollCancel (not (x == 0)) (not (y == 0))

-- a scroll by steps
abbrev pub discrete : Option (List Value) → Option InputEvent
discrete (Some (Signed x ∷ Signed y ∷ [])) = Some (input_event.ScrollDiscrete x y)
discrete values = None

-- The input that a message to an interface of a device is. `called` has the arguments, where the message is the one of
-- that name.
abbrev pub input_by : KnownInterface → (List ℕ → Option (List Value)) → Option InputEvent
input_by known.Pointer called = two (floats input_event.PointerMotion) (called (codes "motion_relative"))
input_by known.PointerAbsolute called = two (floats input_event.PointerMotionAbsolute) (called (codes "motion_absolute"))
input_by known.Scroll called = first
    (two (floats input_event.ScrollDelta) (called (codes "scroll"))
    ∷ discrete (called (codes "scroll_discrete"))
    ∷ three scroll_end (called (codes "scroll_stop"))
    ∷ [])
input_by known.Button called = two (λ button number. input_event.Button button (button_of number)) (called (codes "button"))
input_by known.Keyboard called = two (λ key number. input_event.KeyboardKey key (key_of number)) (called (codes "key"))
input_by known.Touchscreen called = first
    (three (touching input_event.TouchDown) (called (codes "down"))
    ∷ three (touching input_event.TouchMotion) (called (codes "motion"))
    ∷ one input_event.TouchUp (called (codes "up"))
    ∷ one input_event.TouchCancel (called (codes "cancel"))
    ∷ [])
input_by known.Text called = first
    (two (λ keysym number. input_event.TextKeysym keysym (key_of number)) (called (codes "keysym"))
    ∷ text input_event.TextUtf8 (called (codes "utf8"))
    ∷ [])
input_by known.Gesture called = first
    (three (touching input_event.GestureSwipe) (called (codes "swipe"))
    ∷ one (λ scale. input_event.GesturePinch (float scale)) (called (codes "pinch"))
    ∷ [])
input_by interface called = None
