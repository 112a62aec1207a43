-- The events of `ei_x_gesture`, by the table of messages.
use Rattle.std.specs.Prelude.{ℕ, List, [], ◌∷◌, Option, false}
use Rattle.ei_spec.specs.Value.{Value, Word}
use Rattle.ei_spec.specs.declared.interface.KnownInterface.TheVariants as known
use Rattle.ei_spec.specs.Rows.{Row, row_named}
use Rattle.ei_spec.specs.Table.{table}
use Rattle.ei_client.specs.declared.gesture.Event.{Event}
use Rattle.ei_client.specs.declared.gesture.Event.TheVariants.{Destroyed, Swipe, Pinch}

-- the opcode
abbrev pub opcode_of : Event → ℕ
opcode_of (Destroyed serial) = 0
opcode_of (Swipe fingers x y) = 1
opcode_of (Pinch scale) = 2

-- the arguments
abbrev pub values_of : Event → List Value
values_of (Destroyed serial) = Word serial ∷ []
values_of (Swipe fingers x y) = Word fingers ∷ Word x.0 ∷ Word y.0 ∷ []
values_of (Pinch scale) = Word scale.0 ∷ []

-- the row of a request of that name
abbrev pub request : List ℕ → Option (ℕ × Row)
request name = row_named name (table false known.Gesture)
