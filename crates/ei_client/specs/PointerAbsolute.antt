-- The events of `ei_pointer_absolute`, by the table of messages.
use Rattle.std.specs.Prelude.{ℕ, List, [], ◌∷◌, Option, false}
use Rattle.ei_spec.specs.Value.{Value, Word}
use Rattle.ei_spec.specs.declared.interface.KnownInterface.TheVariants as known
use Rattle.ei_spec.specs.Rows.{Row, row_named}
use Rattle.ei_spec.specs.Table.{table}
use Rattle.ei_client.specs.declared.pointer_absolute.Event.{Event}
use Rattle.ei_client.specs.declared.pointer_absolute.Event.TheVariants.{Destroyed, MotionAbsolute}

-- the opcode
abbrev pub opcode_of : Event → ℕ
opcode_of (Destroyed serial) = 0
opcode_of (MotionAbsolute x y) = 1

-- the arguments
abbrev pub values_of : Event → List Value
values_of (Destroyed serial) = Word serial ∷ []
values_of (MotionAbsolute x y) = Word x.0 ∷ Word y.0 ∷ []

-- the row of a request of that name
abbrev pub request : List ℕ → Option (ℕ × Row)
request name = row_named name (table false known.PointerAbsolute)
