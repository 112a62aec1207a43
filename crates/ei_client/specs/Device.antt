-- The events of `ei_device`, by the table of messages.
use Rattle.std.specs.Prelude.{ℕ, List, [], ◌∷◌, Option, Some, None, false}
use Rattle.ei_spec.specs.Value.{Value, Word, Long, Letters}
use Rattle.ei_spec.specs.Interface.{ObjectView, bytes_of}
use Rattle.ei_spec.specs.declared.interface.KnownInterface.TheVariants as known
use Rattle.ei_spec.specs.Rows.{Row, row_named}
use Rattle.ei_spec.specs.Table.{table}
use Rattle.ei_types.specs.Enums.{device_type_number}
use Rattle.ei_client.specs.declared.device.Event.{Event}
use Rattle.ei_client.specs.declared.device.Event.TheVariants.{Destroyed, Name, DeviceType, Dimensions, Region, Interface, Done}
use Rattle.ei_client.specs.declared.device.Event.TheVariants.{Resumed, Paused, StartEmulating, StopEmulating, Frame, RegionMappingId}

-- the opcode
abbrev pub opcode_of : Event → ℕ
opcode_of (Destroyed serial) = 0
opcode_of (Name name) = 1
opcode_of (DeviceType device_type) = 2
opcode_of (Dimensions width height) = 3
opcode_of (Region offset_x offset_y width hight scale) = 4
opcode_of (Interface object) = 5
opcode_of Done = 6
opcode_of (Resumed serial) = 7
opcode_of (Paused serial) = 8
opcode_of (StartEmulating serial sequence) = 9
opcode_of (StopEmulating serial) = 10
opcode_of (Frame serial timestamp) = 11
opcode_of (RegionMappingId mapping_id) = 12

-- the arguments: of an interface's object its id, its name and its version
abbrev pub values_of : Event → List Value
values_of (Destroyed serial) = Word serial ∷ []
values_of (Name name) = Letters name ∷ []
values_of (DeviceType device_type) = Word (device_type_number device_type) ∷ []
values_of (Dimensions width height) = Word width ∷ Word height ∷ []
values_of (Region offset_x offset_y width hight scale) = Word offset_x ∷ Word offset_y ∷ Word width ∷ Word hight ∷ Word scale.0 ∷ []
values_of (Interface object) = Long object.id ∷ Letters (bytes_of object.interface) ∷ Word object.version ∷ []
values_of Done = []
values_of (Resumed serial) = Word serial ∷ []
values_of (Paused serial) = Word serial ∷ []
values_of (StartEmulating serial sequence) = Word serial ∷ Word sequence ∷ []
values_of (StopEmulating serial) = Word serial ∷ []
values_of (Frame serial timestamp) = Word serial ∷ Long timestamp ∷ []
values_of (RegionMappingId mapping_id) = Letters mapping_id ∷ []

-- the object that the event announces: one of an interface of the device
abbrev pub announced_of : Event → Option ObjectView
announced_of (Interface object) = Some object
announced_of m = None

-- the row of a request of that name
abbrev pub request : List ℕ → Option (ℕ × Row)
request name = row_named name (table false known.Device)
