-- The events of `ei_seat`, by the table of messages.
use Rattle.std.specs.Prelude.{ℕ, List, [], ◌∷◌, Option, Some, None, false}
use Rattle.ei_spec.specs.Value.{Value, Word, Long, Letters}
use Rattle.ei_spec.specs.Interface.{ObjectView}
use Rattle.ei_spec.specs.declared.interface.KnownInterface.TheVariants as known
use Rattle.ei_spec.specs.Rows.{Row, row_named}
use Rattle.ei_spec.specs.Table.{table}
use Rattle.ei_client.specs.declared.seat.Event.{Event}
use Rattle.ei_client.specs.declared.seat.Event.TheVariants.{Destroyed, Name, Capability, Done, Device}

-- the opcode
abbrev pub opcode_of : Event → ℕ
opcode_of (Destroyed serial) = 0
opcode_of (Name name) = 1
opcode_of (Capability mask interface) = 2
opcode_of Done = 3
opcode_of (Device device) = 4

-- the arguments: of the device its id and its version
abbrev pub values_of : Event → List Value
values_of (Destroyed serial) = Word serial ∷ []
values_of (Name name) = Letters name ∷ []
values_of (Capability mask interface) = Long mask ∷ Letters interface ∷ []
values_of Done = []
values_of (Device device) = Long device.id ∷ Word device.version ∷ []

-- the object that the event announces: a device
abbrev pub announced_of : Event → Option ObjectView
announced_of (Device device) = Some device
announced_of m = None

-- the row of a request of that name
abbrev pub request : List ℕ → Option (ℕ × Row)
request name = row_named name (table false known.Seat)
