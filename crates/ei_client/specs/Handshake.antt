-- The events of `ei_handshake`, by the table of messages.
use Rattle.std.specs.Prelude.{ℕ, List, [], ◌∷◌, Option, Some, None, false}
use Rattle.ei_spec.specs.Value.{Value, Word, Long, Letters}
use Rattle.ei_spec.specs.Interface.{ObjectView}
use Rattle.ei_spec.specs.declared.interface.KnownInterface.TheVariants as known
use Rattle.ei_spec.specs.Rows.{Row, row_named}
use Rattle.ei_spec.specs.Table.{table}
use Rattle.ei_client.specs.declared.handshake.Event.{Event}
use Rattle.ei_client.specs.declared.handshake.Event.TheVariants.{HandshakeVersion, InterfaceVersion, Connection}

-- the opcode
abbrev pub opcode_of : Event → ℕ
opcode_of (HandshakeVersion version) = 0
opcode_of (InterfaceVersion name version) = 1
opcode_of (Connection serial connection) = 2

-- the arguments: of the connection its id and its version
abbrev pub values_of : Event → List Value
values_of (HandshakeVersion version) = Word version ∷ []
values_of (InterfaceVersion name version) = Letters name ∷ Word version ∷ []
values_of (Connection serial connection) = Word serial ∷ Long connection.id ∷ Word connection.version ∷ []

-- the object that the event announces: the connection
abbrev pub announced_of : Event → Option ObjectView
announced_of (Connection serial connection) = Some connection
announced_of m = None

-- the row of a request of that name
abbrev pub request : List ℕ → Option (ℕ × Row)
request name = row_named name (table false known.Handshake)
