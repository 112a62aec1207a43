-- The requests of `ei_keyboard`, by the table of messages.
use Rattle.std.specs.Prelude.{ℕ, List, [], ◌∷◌, Option, true}
use Rattle.ei_spec.specs.Value.{Value, Word}
use Rattle.ei_spec.specs.declared.interface.KnownInterface.TheVariants as known
use Rattle.ei_spec.specs.Rows.{Row, row_named}
use Rattle.ei_spec.specs.Table.{table}
use Rattle.ei_types.specs.Enums.{key_state_number}
use Rattle.ei_server.specs.declared.keyboard.Request.{Request}
use Rattle.ei_server.specs.declared.keyboard.Request.TheVariants.{Release, Key}

-- the opcode of a request
abbrev pub opcode_of : Request → ℕ
opcode_of Release = 0
opcode_of (Key key state) = 1

-- its arguments
abbrev pub values_of : Request → List Value
values_of Release = []
values_of (Key key state) = Word key ∷ Word (key_state_number state) ∷ []

-- the row of an event of that name
abbrev pub event : List ℕ → Option (ℕ × Row)
event name = row_named name (table true known.Keyboard)
