-- The events of `ei_connection`, by the table of messages.
use Rattle.std.specs.Prelude.{ℕ, List, [], ◌∷◌, Option, Some, None, false}
use Rattle.ei_spec.specs.Value.{Value, Word, Long}
use Rattle.ei_spec.specs.Reading.{or_null}
use Rattle.ei_spec.specs.Interface.{ObjectView}
use Rattle.ei_spec.specs.declared.interface.KnownInterface.TheVariants as known
use Rattle.ei_spec.specs.Rows.{Row, row_named}
use Rattle.ei_spec.specs.Table.{table}
use Rattle.ei_types.specs.Enums.{disconnect_reason_number}
use Rattle.ei_client.specs.declared.connection.Event.{Event}
use Rattle.ei_client.specs.declared.connection.Event.TheVariants.{Disconnected, Seat, InvalidObject, Ping}

-- the opcode
abbrev pub opcode_of : Event → ℕ
opcode_of (Disconnected last_serial reason explanation) = 0
opcode_of (Seat seat) = 1
opcode_of (InvalidObject last_serial invalid_id) = 2
opcode_of (Ping ping) = 3

-- the arguments: of a seat or a ping its id and its version
abbrev pub values_of : Event → List Value
values_of (Disconnected last_serial reason explanation) = Word last_serial ∷ Word (disconnect_reason_number reason) ∷ or_null explanation ∷ []
values_of (Seat seat) = Long seat.id ∷ Word seat.version ∷ []
values_of (InvalidObject last_serial invalid_id) = Word last_serial ∷ Long invalid_id ∷ []
values_of (Ping ping) = Long ping.id ∷ Word ping.version ∷ []

-- the object that the event announces: a seat or a ping
abbrev pub announced_of : Event → Option ObjectView
announced_of (Seat seat) = Some seat
announced_of (Ping ping) = Some ping
announced_of m = None

-- the row of a request of that name
abbrev pub request : List ℕ → Option (ℕ × Row)
request name = row_named name (table false known.Connection)
