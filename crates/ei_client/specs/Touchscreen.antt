-- The events of `ei_touchscreen`, by the table of messages.
use Rattle.std.specs.Prelude.{ℕ, List, [], ◌∷◌, Option, false}
use Rattle.ei_spec.specs.Value.{Value, Word}
use Rattle.ei_spec.specs.declared.interface.KnownInterface.TheVariants as known
use Rattle.ei_spec.specs.Rows.{Row, row_named}
use Rattle.ei_spec.specs.Table.{table}
use Rattle.ei_client.specs.declared.touchscreen.Event.{Event}
use Rattle.ei_client.specs.declared.touchscreen.Event.TheVariants.{Destroyed, Down, Motion, Up, Cancel}

-- the opcode
abbrev pub opcode_of : Event → ℕ
opcode_of (Destroyed serial) = 0
opcode_of (Down touchid x y) = 1
opcode_of (Motion touchid x y) = 2
opcode_of (Up touchid) = 3
opcode_of (Cancel touchid) = 4

-- the arguments
abbrev pub values_of : Event → List Value
values_of (Destroyed serial) = Word serial ∷ []
values_of (Down touchid x y) = Word touchid ∷ Word x.0 ∷ Word y.0 ∷ []
values_of (Motion touchid x y) = Word touchid ∷ Word x.0 ∷ Word y.0 ∷ []
values_of (Up touchid) = Word touchid ∷ []
values_of (Cancel touchid) = Word touchid ∷ []

-- the row of a request of that name
abbrev pub request : List ℕ → Option (ℕ × Row)
request name = row_named name (table false known.Touchscreen)
