-- The events of `ei_text`, by the table of messages.
use Rattle.std.specs.Prelude.{ℕ, List, [], ◌∷◌, Option, false}
use Rattle.ei_spec.specs.Value.{Value, Word, Letters}
use Rattle.ei_spec.specs.declared.interface.KnownInterface.TheVariants as known
use Rattle.ei_spec.specs.Rows.{Row, row_named}
use Rattle.ei_spec.specs.Table.{table}
use Rattle.ei_types.specs.Enums.{key_state_number}
use Rattle.ei_client.specs.declared.text.Event.{Event}
use Rattle.ei_client.specs.declared.text.Event.TheVariants.{Destroyed, Keysym, Utf8}

-- the opcode
abbrev pub opcode_of : Event → ℕ
opcode_of (Destroyed serial) = 0
opcode_of (Keysym keysym state) = 1
opcode_of (Utf8 text) = 2

-- the arguments
abbrev pub values_of : Event → List Value
values_of (Destroyed serial) = Word serial ∷ []
values_of (Keysym keysym state) = Word keysym ∷ Word (key_state_number state) ∷ []
values_of (Utf8 text) = Letters text ∷ []

-- the row of a request of that name
abbrev pub request : List ℕ → Option (ℕ × Row)
request name = row_named name (table false known.Text)
