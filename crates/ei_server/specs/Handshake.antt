-- The requests of `ei_handshake`, by the table of messages.
use Rattle.std.specs.Prelude.{ℕ, List, [], ◌∷◌, Option, true}
use Rattle.ei_spec.specs.Value.{Value, Word, Letters}
use Rattle.ei_spec.specs.declared.interface.KnownInterface.TheVariants as known
use Rattle.ei_spec.specs.Rows.{Row, row_named}
use Rattle.ei_spec.specs.Table.{table}
use Rattle.ei_types.specs.Enums.{context_type_number}
use Rattle.ei_server.specs.declared.handshake.Request.{Request}
use Rattle.ei_server.specs.declared.handshake.Request.TheVariants.{HandshakeVersion, Finish, ContextType, Name, InterfaceVersion}

-- the opcode
abbrev pub opcode_of : Request → ℕ
opcode_of (HandshakeVersion version) = 0
opcode_of Finish = 1
opcode_of (ContextType context_type) = 2
opcode_of (Name name) = 3
opcode_of (InterfaceVersion name version) = 4

-- the arguments
abbrev pub values_of : Request → List Value
values_of (HandshakeVersion version) = Word version ∷ []
values_of Finish = []
values_of (ContextType context_type) = Word (context_type_number context_type) ∷ []
values_of (Name name) = Letters name ∷ []
values_of (InterfaceVersion name version) = Letters name ∷ Word version ∷ []

-- the row of an event of that name
abbrev pub event : List ℕ → Option (ℕ × Row)
event name = row_named name (table true known.Handshake)
