-- The requests of `ei_connection`, by the table of messages.
use Rattle.std.specs.Prelude.{ℕ, List, [], ◌∷◌, Option, Some, None, true}
use Rattle.ei_spec.specs.Value.{Value, Word, Long}
use Rattle.ei_spec.specs.Interface.{ObjectView}
use Rattle.ei_spec.specs.declared.interface.KnownInterface.TheVariants as known
use Rattle.ei_spec.specs.Rows.{Row, row_named}
use Rattle.ei_spec.specs.Table.{table}
use Rattle.ei_server.specs.declared.connection.Request.{Request}
use Rattle.ei_server.specs.declared.connection.Request.TheVariants.{Sync, Disconnect}

-- the opcode
abbrev pub opcode_of : Request → ℕ
opcode_of (Sync callback) = 0
opcode_of Disconnect = 1

-- the arguments: of the callback its id and its version
abbrev pub values_of : Request → List Value
values_of (Sync callback) = Long callback.id ∷ Word callback.version ∷ []
values_of Disconnect = []

-- the object that the request announces: a callback
abbrev pub announced_of : Request → Option ObjectView
announced_of (Sync callback) = Some callback
announced_of Disconnect = None

-- the row of an event of that name
abbrev pub event : List ℕ → Option (ℕ × Row)
event name = row_named name (table true known.Connection)
