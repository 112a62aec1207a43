-- The requests of `ei_x_gesture`, by the table of messages.
use Rattle.std.specs.Prelude.{ℕ, List, [], ◌∷◌, Option, true}
use Rattle.ei_spec.specs.Value.{Value, Word}
use Rattle.ei_spec.specs.declared.interface.KnownInterface.TheVariants as known
use Rattle.ei_spec.specs.Rows.{Row, row_named}
use Rattle.ei_spec.specs.Table.{table}
use Rattle.ei_server.specs.declared.gesture.Request.{Request}
use Rattle.ei_server.specs.declared.gesture.Request.TheVariants.{Release, Swipe, Pinch}

-- the opcode of a request
abbrev pub opcode_of : Request → ℕ
opcode_of Release = 0
opcode_of (Swipe fingers x y) = 1
opcode_of (Pinch scale) = 2

-- its arguments
abbrev pub values_of : Request → List Value
values_of Release = []
values_of (Swipe fingers x y) = Word fingers ∷ Word x.0 ∷ Word y.0 ∷ []
values_of (Pinch scale) = Word scale.0 ∷ []

-- the row of an event of that name
abbrev pub event : List ℕ → Option (ℕ × Row)
event name = row_named name (table true known.Gesture)
