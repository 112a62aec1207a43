-- The requests of `ei_seat`, by the table of messages.
use Rattle.std.specs.Prelude.{ℕ, List, [], ◌∷◌, Option, true}
use Rattle.ei_spec.specs.Value.{Value, Long}
use Rattle.ei_spec.specs.declared.interface.KnownInterface.TheVariants as known
use Rattle.ei_spec.specs.Rows.{Row, row_named}
use Rattle.ei_spec.specs.Table.{table}
use Rattle.ei_server.specs.declared.seat.Request.{Request}
use Rattle.ei_server.specs.declared.seat.Request.TheVariants.{Release, Bind, RequestDevice}

-- the opcode
abbrev pub opcode_of : Request → ℕ
opcode_of Release = 0
opcode_of (Bind capabilities) = 1
opcode_of (RequestDevice capabilities) = 2

-- the arguments
abbrev pub values_of : Request → List Value
values_of Release = []
values_of (Bind capabilities) = Long capabilities ∷ []
values_of (RequestDevice capabilities) = Long capabilities ∷ []

-- the row of an event of that name
abbrev pub event : List ℕ → Option (ℕ × Row)
event name = row_named name (table true known.Seat)
