-- The events of `ei_keyboard`, by the table of messages.
use Rattle.std.specs.Prelude.{ℕ, List, [], ◌∷◌, Option, false}
use Rattle.ei_spec.specs.Value.{Value, Word, Fd}
use Rattle.ei_spec.specs.declared.interface.KnownInterface.TheVariants as known
use Rattle.ei_spec.specs.Rows.{Row, row_named}
use Rattle.ei_spec.specs.Table.{table}
use Rattle.ei_types.specs.Enums.{key_state_number, keymap_type_number}
use Rattle.ei_client.specs.declared.keyboard.Event.{Event}
use Rattle.ei_client.specs.declared.keyboard.Event.TheVariants.{Destroyed, Keymap, Key, Modifiers}

-- the opcode
abbrev pub opcode_of : Event → ℕ
opcode_of (Destroyed serial) = 0
opcode_of (Keymap keymap_type size keymap) = 1
opcode_of (Key key state) = 2
opcode_of (Modifiers serial depressed locked latched group) = 3

-- the arguments
abbrev pub values_of : Event → List Value
values_of (Destroyed serial) = Word serial ∷ []
values_of (Keymap keymap_type size keymap) = Word (keymap_type_number keymap_type) ∷ Word size ∷ Fd keymap ∷ []
values_of (Key key state) = Word key ∷ Word (key_state_number state) ∷ []
values_of (Modifiers serial depressed locked latched group) = Word serial ∷ Word depressed ∷ Word locked ∷ Word latched ∷ Word group ∷ []

-- the row of a request of that name
abbrev pub request : List ℕ → Option (ℕ × Row)
request name = row_named name (table false known.Keyboard)
