-- What a server sends at each of its acts once the handshake is done: the first in front.
use Rattle.std.specs.Prelude.{ℕ, ◌+◌, List, [], ◌∷◌, ◌++◌, map, Option, Some, None, find, ◌&&◌, codes, if◌then◌else◌}
use Rattle.std.specs.List.{filter_map, flat_map}
use Rattle.ei_spec.specs.declared.interface.KnownInterface.{KnownInterface}
use Rattle.ei_spec.specs.declared.interface.KnownInterface.TheVariants as known
use Rattle.ei_spec.specs.declared.handle.Handle.{Handle}
use Rattle.ei_spec.specs.Interface.{ObjectView}
use Rattle.ei_spec.specs.Value.{Value, Word, Long}
use Rattle.ei_types.specs.Capability.{capabilities, has_bit, bits_of}
use Rattle.ei_types.specs.Enums.{device_type_number, keymap_type_number}
use Rattle.ei_types.specs.declared.capability.DeviceCapabilities.{DeviceCapabilities}
use Rattle.ei_types.specs.declared.enums.DeviceType.{DeviceType}
use Rattle.ei_session.specs.Meaning.{Meaning, Syncs, ReleasesSeat, Releases}
use Rattle.ei_backend.specs.Table.{TableView, found}
use Rattle.ei_backend.specs.Endpoint.{endpoint_of}
use Rattle.ei_ends.specs.Sent.{Sent}
use Rattle.ei_request.specs.declared.making.DeviceSetup.{DeviceSetup}
use Rattle.ei_request.specs.declared.making.DeviceSetup.TheVariants as setup
use Rattle.ei_request.specs.Keys.{DeviceKey}
use Rattle.ei_request.specs.Held.{DeviceView, is_seat, is_of_key, has_interface, gone_ids, gone_with_seat, all_seat_ids}
use Rattle.ei_request.specs.Connection.{ConnectionView, next_serial, version_in, is_settled}
use Rattle.ei_request.specs.Sending.{serial_after}
use Rattle.ei_request.specs.Making.{new_device, object_of}
use Rattle.ei_acts.specs.Events as event

-- ---- a device tells

-- one of the events that bear the next serial
abbrev pub tells : ConnectionView → ObjectView → List ℕ → List Value → List Sent
tells c device name more = event.to_device device.version device.id name (Word (next_serial c.last_serial) ∷ more) ∷ []

abbrev pub resumed : ConnectionView → ObjectView → List Sent
resumed c device = tells c device (codes "resumed") []

abbrev pub paused : ConnectionView → ObjectView → List Sent
paused c device = tells c device (codes "paused") []

abbrev pub start_emulating : ConnectionView → ObjectView → ℕ → List Sent
start_emulating c device sequence = tells c device (codes "start_emulating") (Word sequence ∷ [])

abbrev pub stop_emulating : ConnectionView → ObjectView → List Sent
stop_emulating c device = tells c device (codes "stop_emulating") []

abbrev pub frame : ConnectionView → ObjectView → ℕ → List Sent
frame c device time = tells c device (codes "frame") (Long time ∷ [])

-- the target of a message isn't there
abbrev pub invalid_object : ConnectionView → ℕ → List Sent
invalid_object c id = event.no_object c.proxy c.last_serial id ∷ []

-- ---- objects go

-- one after another, each as the object that it is looked up as, with the serials that follow
abbrev pub gone_as : (ℕ → Option ObjectView) → ℕ → List ℕ → List Sent
gone_as objects serial [] = []
gone_as objects serial (id ∷ ids) = event.destroyed_as (objects id) id (next_serial serial) ∷ gone_as objects (next_serial serial) ids

-- as what is in a table
abbrev pub destroyed_all : TableView → ℕ → List ℕ → List Sent
destroyed_all t serial ids = gone_as (found t) serial ids

-- the same of a connection's objects
abbrev pub gone : ConnectionView → List ℕ → List Sent
gone c ids = destroyed_all c.ctx.table c.last_serial ids

-- a device, behind the interfaces that it has left; nothing where it isn't held
abbrev pub remove_device : ConnectionView → DeviceKey → List Sent
remove_device c key = gone c (gone_ids (find (is_of_key key) c.devices))

-- a seat, behind its devices, unless the client released it
abbrev pub remove_seat : ConnectionView → ℕ → List Sent
remove_seat c id = gone c (gone_with_seat c.devices (find (is_seat id) c.seats))

-- all seats, and then the connection
abbrev pub disconnected : ConnectionView → ℕ → Option (List ℕ) → List Sent
disconnected c reason text =
    gone c (all_seat_ids c.devices c.seats)
    ++ (event.disconnected c.proxy (serial_after c.last_serial (all_seat_ids c.devices c.seats)) reason text ∷ [])

-- the same, where what goes is looked up otherwise
abbrev pub disconnected_as : (ℕ → Option ObjectView) → ConnectionView → ℕ → Option (List ℕ) → List Sent
disconnected_as objects c reason text =
    gone_as objects c.last_serial (all_seat_ids c.devices c.seats)
    ++ (event.disconnected c.proxy (serial_after c.last_serial (all_seat_ids c.devices c.seats)) reason text ∷ [])

-- ---- a request is answered

abbrev pub release_seat : ConnectionView → ℕ → List Sent
release_seat c id = gone c (id ∷ [])

-- an interface goes where a held device has it
abbrev pub gives_up : ConnectionView → ℕ → Option DeviceView → List Sent
gives_up c id None = []
gives_up c id (Some d) = gone c (id ∷ [])

abbrev pub release_interface : ConnectionView → ℕ → List Sent
release_interface c id = gives_up c id (find (has_interface id) c.devices)

-- what answers a request to the object of that id, by what it asks
abbrev pub answers : ConnectionView → ℕ → Meaning → List Sent
answers c id (Syncs callback version) = event.called_back callback version ∷ []
answers c id ReleasesSeat = release_seat c id
answers c id Releases = release_interface c id
answers c id other = []

-- ---- a seat

-- what is told by a name, where there is one
abbrev pub named : (List ℕ → Sent) → Option (List ℕ) → List Sent
named event None = []
named event (Some name) = event name ∷ []

-- the version in which seats of a connection are made
abbrev pub seat_version : ConnectionView → ℕ
seat_version c = version_in c.negotiated known.Seat

-- the capabilities of a mask whose interfaces are settled, by rising bit
abbrev pub offered : ConnectionView → DeviceCapabilities → List (ℕ × KnownInterface)
offered c given = filter_map (λ p. if has_bit (bits_of given) p.0 && is_settled c.negotiated p.1 then Some p else None) capabilities

-- a new seat: its name if it has one, its capabilities, and the end of its description
abbrev pub add_seat : ConnectionView → Option (List ℕ) → DeviceCapabilities → List Sent
add_seat c name given =
    event.seat c.proxy c.ctx.table.next_own (seat_version c)
    ∷ (named (event.seat_name (seat_version c) c.ctx.table.next_own) name
    ++ (map (event.capability (seat_version c) c.ctx.table.next_own) (offered c given)
    ++ (event.seat_done (seat_version c) c.ctx.table.next_own ∷ [])))

-- ---- a device

abbrev pub device_version : ConnectionView → ℕ
device_version c = version_in c.negotiated known.Device

-- interfaces of the device of that id, with rising ids
abbrev pub interfaces_from : ConnectionView → ℕ → ℕ → List KnownInterface → List Sent
interfaces_from c device id [] = []
interfaces_from c device id (i ∷ is) =
    event.interface (device_version c) device id i (version_in c.negotiated i) ∷ interfaces_from c device (id + 1) is

-- a keymap, where the device has a keyboard
abbrev pub keymaps : ℕ → ℕ → Handle → Option ObjectView → List Sent
keymaps kind size handle None = []
keymaps kind size handle (Some keyboard) = event.keymap keyboard.version keyboard.id kind size handle ∷ []

-- an item of the description of the device of that version and id
abbrev pub item : ℕ → ℕ → Option ObjectView → DeviceSetup → List Sent
item version device keyboard (setup.Dimensions width height) = event.dimensions version device width height ∷ []
item version device keyboard (setup.RegionMappingId id) = event.region_mapping_id version device id.now ∷ []
item version device keyboard (setup.Region x y width hight scale) = event.region version device x y width hight scale.0 ∷ []
item version device keyboard (setup.Keymap kind size handle) = keymaps (keymap_type_number kind) size handle keyboard

-- the keyboard that a new device of the seat gets
abbrev pub new_keyboard : ConnectionView → ObjectView → Option (List ℕ) → List KnownInterface → Option ObjectView
new_keyboard c seat name interfaces =
    object_of known.Keyboard (new_device (endpoint_of c.ctx) c.negotiated seat name interfaces).interfaces

-- a new device: its name if it has one, its type, its interfaces, the items of its description in order, and the end of it
abbrev pub add_device : ConnectionView → ObjectView → Option (List ℕ) → DeviceType → List KnownInterface → List DeviceSetup → List Sent
add_device c seat name kind interfaces items =
    event.device seat c.ctx.table.next_own (device_version c)
    ∷ (named (event.device_name (device_version c) c.ctx.table.next_own) name
    ++ (event.device_type (device_version c) c.ctx.table.next_own (device_type_number kind)
    ∷ (interfaces_from c c.ctx.table.next_own (c.ctx.table.next_own + 1) interfaces
    ++ (flat_map (item (device_version c) c.ctx.table.next_own (new_keyboard c seat name interfaces)) items
    ++ (event.device_done (device_version c) c.ctx.table.next_own ∷ [])))))
