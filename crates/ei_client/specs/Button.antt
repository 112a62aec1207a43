-- The events of `ei_button`, by the table of messages.
use Rattle.std.specs.Prelude.{ℕ, List, [], ◌∷◌, Option, false}
use Rattle.ei_spec.specs.Value.{Value, Word}
use Rattle.ei_spec.specs.declared.interface.KnownInterface.TheVariants as known
use Rattle.ei_spec.specs.Rows.{Row, row_named}
use Rattle.ei_spec.specs.Table.{table}
use Rattle.ei_types.specs.Enums.{button_state_number}
use Rattle.ei_client.specs.declared.button.Event.{Event}
use Rattle.ei_client.specs.declared.button.Event.TheVariants.{Destroyed, Button}

-- the opcode
abbrev pub opcode_of : Event → ℕ
opcode_of (Destroyed serial) = 0
opcode_of (Button button state) = 1

-- the arguments
abbrev pub values_of : Event → List Value
values_of (Destroyed serial) = Word serial ∷ []
values_of (Button button state) = Word button ∷ Word (button_state_number state) ∷ []

-- the row of a request of that name
abbrev pub request : List ℕ → Option (ℕ × Row)
request name = row_named name (table false known.Button)
