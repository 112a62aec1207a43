-- The events that inputs are told by, of the table of messages.
use Rattle.std.specs.Prelude.{ℕ, Bool, true, false, List, [], ◌∷◌, codes}
use Rattle.ei_spec.specs.declared.interface.KnownInterface.{KnownInterface}
use Rattle.ei_spec.specs.declared.interface.KnownInterface.TheVariants as known
use Rattle.ei_spec.specs.Message.{Raw}
use Rattle.ei_spec.specs.Value.{Value, Word, Signed, Letters}
use Rattle.ei_types.specs.Enums.{button_state_number, key_state_number}
use Rattle.ei_input.specs.declared.input_event.InputEvent.{InputEvent}
use Rattle.ei_input.specs.declared.input_event.InputEvent.TheVariants as input
use Rattle.ei_session.specs.Arguments.{event}

-- an event: to an object of which interface, its name, and its arguments
pub record Event : Type 0 where
  pub interface : KnownInterface
  pub name : List ℕ
  pub values : List Value

abbrev pub to : KnownInterface → List ℕ → List Value → Event
to interface name values = record { interface = interface; name = name; values = values }

-- an axis that stops is 1
abbrev pub axis : Bool → ℕ
axis true = 1
axis false = 0

-- the event that an input is told by
abbrev pub told_by : InputEvent → Event
told_by (input.PointerMotion dx dy) = to known.Pointer (codes "motion_relative") (Word dx.0 ∷ Word dy.0 ∷ [])
told_by (input.PointerMotionAbsolute x y) = to known.PointerAbsolute (codes "motion_absolute") (Word x.0 ∷ Word y.0 ∷ [])
told_by (input.Button button state) = to known.Button (codes "button") (Word button ∷ Word (button_state_number state) ∷ [])
told_by (input.ScrollDelta dx dy) = to known.Scroll (codes "scroll") (Word dx.0 ∷ Word dy.0 ∷ [])
told_by (input.ScrollStop x y) = to known.Scroll (codes "scroll_stop") (Word (axis x) ∷ Word (axis y) ∷ Word 0 ∷ [])
told_by (input.ScrollCancel x y) = to known.Scroll (codes "scroll_stop") (Word (axis x) ∷ Word (axis y) ∷ Word 1 ∷ [])
told_by (input.ScrollDiscrete dx dy) = to known.Scroll (codes "scroll_discrete") (Signed dx ∷ Signed dy ∷ [])
told_by (input.KeyboardKey key state) = to known.Keyboard (codes "key") (Word key ∷ Word (key_state_number state) ∷ [])
told_by (input.TouchDown touch x y) = to known.Touchscreen (codes "down") (Word touch ∷ Word x.0 ∷ Word y.0 ∷ [])
told_by (input.TouchMotion touch x y) = to known.Touchscreen (codes "motion") (Word touch ∷ Word x.0 ∷ Word y.0 ∷ [])
told_by (input.TouchUp touch) = to known.Touchscreen (codes "up") (Word touch ∷ [])
told_by (input.TouchCancel touch) = to known.Touchscreen (codes "cancel") (Word touch ∷ [])
told_by (input.TextKeysym keysym state) = to known.Text (codes "keysym") (Word keysym ∷ Word (key_state_number state) ∷ [])
told_by (input.TextUtf8 letters) = to known.Text (codes "utf8") (Letters letters ∷ [])
told_by (input.GestureSwipe fingers dx dy) = to known.Gesture (codes "swipe") (Word fingers ∷ Word dx.0 ∷ Word dy.0 ∷ [])
told_by (input.GesturePinch scale) = to known.Gesture (codes "pinch") (Word scale.0 ∷ [])

-- its message to the object of that id
abbrev pub message_to : Event → ℕ → Raw
message_to e id = event e.interface e.name id e.values
