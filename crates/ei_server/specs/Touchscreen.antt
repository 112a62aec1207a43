-- The requests of `ei_touchscreen`, by the table of messages.
use Rattle.std.specs.Prelude.{ℕ, List, [], ◌∷◌, Option, true}
use Rattle.ei_spec.specs.Value.{Value, Word}
use Rattle.ei_spec.specs.declared.interface.KnownInterface.TheVariants as known
use Rattle.ei_spec.specs.Rows.{Row, row_named}
use Rattle.ei_spec.specs.Table.{table}
use Rattle.ei_server.specs.declared.touchscreen.Request.{Request}
use Rattle.ei_server.specs.declared.touchscreen.Request.TheVariants.{Release, Down, Motion, Up, Cancel}

-- the opcode of a request
abbrev pub opcode_of : Request → ℕ
opcode_of Release = 0
opcode_of (Down touchid x y) = 1
opcode_of (Motion touchid x y) = 2
opcode_of (Up touchid) = 3
opcode_of (Cancel touchid) = 4

-- its arguments
abbrev pub values_of : Request → List Value
values_of Release = []
values_of (Down touchid x y) = Word touchid ∷ Word x.0 ∷ Word y.0 ∷ []
values_of (Motion touchid x y) = Word touchid ∷ Word x.0 ∷ Word y.0 ∷ []
values_of (Up touchid) = Word touchid ∷ []
values_of (Cancel touchid) = Word touchid ∷ []

-- the row of an event of that name
abbrev pub event : List ℕ → Option (ℕ × Row)
event name = row_named name (table true known.Touchscreen)
