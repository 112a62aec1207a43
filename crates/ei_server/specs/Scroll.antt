-- The requests of `ei_scroll`, by the table of messages.
use Rattle.std.specs.Prelude.{ℕ, List, [], ◌∷◌, Option, true}
use Rattle.ei_spec.specs.Value.{Value, Word, Signed}
use Rattle.ei_spec.specs.declared.interface.KnownInterface.TheVariants as known
use Rattle.ei_spec.specs.Rows.{Row, row_named}
use Rattle.ei_spec.specs.Table.{table}
use Rattle.ei_server.specs.declared.scroll.Request.{Request}
use Rattle.ei_server.specs.declared.scroll.Request.TheVariants.{Release, Scroll, ScrollDiscrete, ScrollStop}

-- the opcode of a request
abbrev pub opcode_of : Request → ℕ
opcode_of Release = 0
opcode_of (Scroll x y) = 1
opcode_of (ScrollDiscrete x y) = 2
opcode_of (ScrollStop x y is_cancel) = 3

-- its arguments
abbrev pub values_of : Request → List Value
values_of Release = []
values_of (Scroll x y) = Word x.0 ∷ Word y.0 ∷ []
values_of (ScrollDiscrete x y) = Signed x ∷ Signed y ∷ []
values_of (ScrollStop x y is_cancel) = Word x ∷ Word y ∷ Word is_cancel ∷ []

-- the row of an event of that name
abbrev pub event : List ℕ → Option (ℕ × Row)
event name = row_named name (table true known.Scroll)
