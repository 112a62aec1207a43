-- The events of `ei_scroll`, by the table of messages.
use Rattle.std.specs.Prelude.{ℕ, List, [], ◌∷◌, Option, false}
use Rattle.ei_spec.specs.Value.{Value, Word, Signed}
use Rattle.ei_spec.specs.declared.interface.KnownInterface.TheVariants as known
use Rattle.ei_spec.specs.Rows.{Row, row_named}
use Rattle.ei_spec.specs.Table.{table}
use Rattle.ei_client.specs.declared.scroll.Event.{Event}
use Rattle.ei_client.specs.declared.scroll.Event.TheVariants.{Destroyed, Scroll, ScrollDiscrete, ScrollStop}

-- the opcode
abbrev pub opcode_of : Event → ℕ
opcode_of (Destroyed serial) = 0
opcode_of (Scroll x y) = 1
opcode_of (ScrollDiscrete x y) = 2
opcode_of (ScrollStop x y is_cancel) = 3

-- the arguments
abbrev pub values_of : Event → List Value
values_of (Destroyed serial) = Word serial ∷ []
values_of (Scroll x y) = Word x.0 ∷ Word y.0 ∷ []
values_of (ScrollDiscrete x y) = Signed x ∷ Signed y ∷ []
values_of (ScrollStop x y is_cancel) = Word x ∷ Word y ∷ Word is_cancel ∷ []

-- the row of a request of that name
abbrev pub request : List ℕ → Option (ℕ × Row)
request name = row_named name (table false known.Scroll)
