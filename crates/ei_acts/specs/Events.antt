-- Single events of a server, to objects as they were announced.
use Rattle.std.specs.Prelude.{ℕ, true, List, [], ◌∷◌, Option, Some, None, codes}
use Rattle.ei_spec.specs.declared.handle.Handle.{Handle}
use Rattle.ei_spec.specs.declared.interface.KnownInterface.{KnownInterface}
use Rattle.ei_spec.specs.declared.interface.KnownInterface.TheVariants as known
use Rattle.ei_spec.specs.Interface.{Interface, Known, Other, ObjectView, name_of}
use Rattle.ei_spec.specs.Reading.{or_null}
use Rattle.ei_spec.specs.Rows.{row_named}
use Rattle.ei_spec.specs.Table.{table}
use Rattle.ei_spec.specs.Value.{Value, Word, Long, Letters, Fd}
use Rattle.ei_backend.specs.Table.{TableView, found}
use Rattle.ei_ends.specs.Sent.{Sent}
use Rattle.ei_reported.specs.Event.{opcode_by}

-- the event of that name to the object of that id, which was announced as one of the interface, of that version
abbrev pub event_to : KnownInterface → ℕ → ℕ → List ℕ → List Value → Sent
event_to interface version id name values = record {
  target = id;
  interface = interface;
  version = version;
  opcode = opcode_by (row_named name (table true interface));
  values = values;
}

-- ---- to the connection

abbrev pub to_connection : ObjectView → List ℕ → List Value → Sent
to_connection connection name values = event_to known.Connection connection.version connection.id name values

-- no object has the id
abbrev pub no_object : ObjectView → ℕ → ℕ → Sent
no_object connection serial id = to_connection connection (codes "invalid_object") (Word serial ∷ Long id ∷ [])

-- the end of the connection, with a reason and a text, if there is one
abbrev pub disconnected : ObjectView → ℕ → ℕ → Option (List ℕ) → Sent
disconnected connection serial reason text = to_connection connection (codes "disconnected") (Word serial ∷ Word reason ∷ or_null text ∷ [])

-- a new seat of that id and version
abbrev pub seat : ObjectView → ℕ → ℕ → Sent
seat connection id version = to_connection connection (codes "seat") (Long id ∷ Word version ∷ [])

-- a callback is called
abbrev pub called_back : ℕ → ℕ → Sent
called_back callback version = event_to known.Callback version callback (codes "done") (Long 0 ∷ [])

-- ---- to a seat of that version and id

abbrev pub to_seat : ℕ → ℕ → List ℕ → List Value → Sent
to_seat version seat name values = event_to known.Seat version seat name values

abbrev pub seat_name : ℕ → ℕ → List ℕ → Sent
seat_name version seat name = to_seat version seat (codes "name") (Letters name ∷ [])

-- a capability: its bit, and the interface that bears it
abbrev pub capability : ℕ → ℕ → ℕ × KnownInterface → Sent
capability version seat c = to_seat version seat (codes "capability") (Long c.0 ∷ Letters (name_of c.1) ∷ [])

abbrev pub seat_done : ℕ → ℕ → Sent
seat_done version seat = to_seat version seat (codes "done") []

-- a new device of that id and version
abbrev pub device : ObjectView → ℕ → ℕ → Sent
device seat id version = to_seat seat.version seat.id (codes "device") (Long id ∷ Word version ∷ [])

-- ---- to a device of that version and id

abbrev pub to_device : ℕ → ℕ → List ℕ → List Value → Sent
to_device version device name values = event_to known.Device version device name values

abbrev pub device_name : ℕ → ℕ → List ℕ → Sent
device_name version device name = to_device version device (codes "name") (Letters name ∷ [])

abbrev pub device_type : ℕ → ℕ → ℕ → Sent
device_type version device kind = to_device version device (codes "device_type") (Word kind ∷ [])

-- a new interface of it: its id, which one, and its version
abbrev pub interface : ℕ → ℕ → ℕ → KnownInterface → ℕ → Sent
interface version device id which v = to_device version device (codes "interface") (Long id ∷ Letters (name_of which) ∷ Word v ∷ [])

abbrev pub dimensions : ℕ → ℕ → ℕ → ℕ → Sent
dimensions version device width height = to_device version device (codes "dimensions") (Word width ∷ Word height ∷ [])

abbrev pub region_mapping_id : ℕ → ℕ → List ℕ → Sent
region_mapping_id version device id = to_device version device (codes "region_mapping_id") (Letters id ∷ [])

abbrev pub region : ℕ → ℕ → ℕ → ℕ → ℕ → ℕ → ℕ → Sent
region version device x y width hight scale =
    to_device version device (codes "region") (Word x ∷ Word y ∷ Word width ∷ Word hight ∷ Word scale ∷ [])

-- a keymap of the keyboard of that version and id
abbrev pub keymap : ℕ → ℕ → ℕ → ℕ → Handle → Sent
keymap version keyboard kind size handle =
    event_to known.Keyboard version keyboard (codes "keymap") (Word kind ∷ Word size ∷ Fd handle ∷ [])

abbrev pub device_done : ℕ → ℕ → Sent
device_done version device = to_device version device (codes "done") []

-- ---- what goes

abbrev pub known_as : Interface → KnownInterface
known_as (Known k) = k
known_as (Other name) = known.Device

-- the object as it is destroyed: what it is stands in the table
abbrev pub destroyed_as : Option ObjectView → ℕ → ℕ → Sent
destroyed_as (Some o) id serial = event_to (known_as o.interface) o.version id (codes "destroyed") (Word serial ∷ [])
destroyed_as None id serial = event_to known.Device 1 id (codes "destroyed") (Word serial ∷ [])

abbrev pub destroyed : TableView → ℕ → ℕ → Sent
destroyed t id serial = destroyed_as (found t id) id serial
