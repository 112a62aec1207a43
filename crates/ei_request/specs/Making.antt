-- Seats and devices that are made.
use Rattle.std.specs.Prelude.{◌≡◌, ℕ, ◌+◌, ◌<◌, ◌≤◌, true, false, List, [], ◌∷◌, ◌++◌, length, Option, Some, None, find, ◌&&◌, ◌||◌, nat_lt, Bool, if◌then◌else◌, codes}
use Rattle.std.specs.List.{filter_map, list_any, flat_map, sum_by}
use Rattle.ei_spec.specs.declared.handle.Handle.{Handle}
use Rattle.ei_spec.specs.declared.interface.KnownInterface.{KnownInterface}
use Rattle.ei_spec.specs.declared.interface.KnownInterface.TheVariants as known
use Rattle.ei_spec.specs.declared.limits.TheConstants.{MOST_MESSAGE_BYTES}
use Rattle.ei_spec.specs.Interface.{Known, ObjectView}
use Rattle.ei_spec.specs.Message.{Raw, size}
use Rattle.ei_spec.specs.Reading.{or_null}
use Rattle.ei_spec.specs.Value.{Word, Letters, Fd, written}
use Rattle.ei_types.specs.Capability.{capabilities, has_bit, bits_of, bit_of, interface_of}
use Rattle.ei_types.specs.Enums.{device_type_number, keymap_type_number}
use Rattle.ei_types.specs.declared.capability.DeviceCapabilities.{DeviceCapabilities}
use Rattle.ei_types.specs.declared.capability.DeviceCapability.{DeviceCapability}
use Rattle.ei_types.specs.declared.enums.DeviceType.{DeviceType}
use Rattle.ei_backend.specs.Object.{same_name}
use Rattle.ei_backend.specs.Table.{TableView, own_end}
use Rattle.ei_backend.specs.Endpoint.{Endpoint, endpoint_of}
use Rattle.ei_session.specs.Arguments.{event}
use Rattle.ei_session.specs.Replies.{seat_event, name_event, capability_event, capability_events, done_event}
use Rattle.ei_session.specs.Events.{interface_event, device_done_event}
use Rattle.ei_handshake.specs.Versions.{VersionMap}
use Rattle.ei_request.specs.Held.{SeatView, DeviceView, is_seat}
use Rattle.ei_request.specs.Connection.{ConnectionView, version_in, is_settled}
use Rattle.ei_request.specs.Sending.{announces, next_object, sends_on, device_event, device_name_event, device_type_event}
use Rattle.ei_request.specs.declared.costs.TheConstants.{MOST_ITEM_BYTES}
use Rattle.ei_request.specs.declared.making.Allowed.{Allowed}
use Rattle.ei_request.specs.declared.making.DeviceSetup.{DeviceSetup}
use Rattle.ei_request.specs.declared.making.DeviceSetup.TheVariants as setup

-- ---- seats

-- the seat that comes next
abbrev pub new_seat : ConnectionView → ObjectView
new_seat c = next_object (endpoint_of c.ctx) known.Seat (version_in c.negotiated known.Seat)

-- the events of a name, where there is one
abbrev pub named_by : (List ℕ → Raw) → Option (List ℕ) → List Raw
named_by event None = []
named_by event (Some name) = event name ∷ []

-- the event of a capability, where the mask has it and its interface is settled
abbrev pub capability_if : ℕ → ℕ → (KnownInterface → Bool) → ℕ × KnownInterface → List Raw
capability_if seat mask settled c = if has_bit mask c.0 && settled c.1 then capability_event seat c ∷ [] else []

-- the events that describe a seat, once it is announced
abbrev pub seat_description : VersionMap → ℕ → Option (List ℕ) → ℕ → List Raw
seat_description versions seat name mask =
    named_by (name_event seat) name ++ (capability_events seat mask (is_settled versions) ++ (done_event seat ∷ []))

-- the endpoint with a new seat, announced on the connection of that id and described
abbrev pub seat_made : Endpoint → ℕ → VersionMap → Option (List ℕ) → ℕ → Endpoint
seat_made e connection versions name mask =
    sends_on (announces e (seat_event connection e.next_own (version_in versions known.Seat)) known.Seat (version_in versions known.Seat))
    (seat_description versions e.next_own name mask)

-- the bytes of a name as an argument; where there is none, of null
abbrev pub name_text : Option (List ℕ) → List ℕ
name_text name = written (or_null name)

-- A new seat is held, and the client was told.
pub record AddsSeat (old : ConnectionView) (name : Option (List ℕ)) (capabilities : DeviceCapabilities) (new : ConnectionView) : Type 0 where
  pub endpoint : endpoint_of new.ctx ≡ seat_made (endpoint_of old.ctx) old.proxy.id old.negotiated name (bits_of capabilities)
  pub rest : new ≡ record old { ctx = new.ctx; seats = old.seats ++ record { proxy = new_seat old; capabilities = capabilities; released = false } ∷ [] }

-- whether the message would be too long
abbrev pub is_long : Raw → Bool
is_long m = nat_lt MOST_MESSAGE_BYTES (size m)

-- whether the message of a name would be, where there is one
abbrev pub is_long_name : (List ℕ → Raw) → Option (List ℕ) → Bool
is_long_name event name = list_any is_long (named_by event name)

-- there is an id for a seat, but its name is too long
abbrev pub HasLongName : TableView → Option (List ℕ) → Type 0
HasLongName t name = (t.next_own < own_end t) × (is_long_name (name_event t.next_own) name ≡ true)

-- ---- devices

-- the interfaces of a device, by rising bit: those of the capabilities that are wanted and were given to the seat
abbrev pub granted : DeviceCapabilities → DeviceCapabilities → List KnownInterface
granted given wanted = filter_map (λ c. if has_bit (bits_of given) c.0 && has_bit (bits_of wanted) c.0 then Some c.1 else None) capabilities

-- the interface of a capability, where it is wanted and was given
abbrev pub chosen : DeviceCapabilities → DeviceCapabilities → DeviceCapability → List KnownInterface
chosen given wanted one = if has_bit (bits_of given) (bit_of one) && has_bit (bits_of wanted) (bit_of one) then interface_of one ∷ [] else []

-- those of a device that is allowed these
abbrev pub granted_to : Allowed → List KnownInterface
granted_to allowed = granted allowed.given allowed.wanted

-- the interface of a capability, where it is allowed
abbrev pub chosen_of : Allowed → DeviceCapability → List KnownInterface
chosen_of allowed one = chosen allowed.given allowed.wanted one

-- of the seat, if it is held
abbrev pub granted_by : Option SeatView → DeviceCapabilities → List KnownInterface
granted_by None wanted = []
granted_by (Some s) wanted = granted s.capabilities wanted

-- of the seat of that id
abbrev pub granted_at : ConnectionView → ℕ → DeviceCapabilities → List KnownInterface
granted_at c seat wanted = granted_by (find (is_seat seat) c.seats) wanted

-- whether the keyboard's is among them
abbrev pub is_keyboard : KnownInterface → Bool
is_keyboard known.Keyboard = true
is_keyboard interface = false

abbrev pub has_keyboard : List KnownInterface → Bool
has_keyboard interfaces = list_any is_keyboard interfaces

-- interfaces of a device, announced one after another
abbrev pub announces_all : Endpoint → (KnownInterface → ℕ) → ℕ → List KnownInterface → Endpoint
announces_all e versions device [] = e
announces_all e versions device (i ∷ is) = announces_all (announces e (interface_event device e.next_own i (versions i)) i (versions i)) versions device is

-- and their objects
abbrev pub objects_of : Endpoint → (KnownInterface → ℕ) → List KnownInterface → List ObjectView
objects_of e versions [] = []
objects_of e versions (i ∷ is) = next_object e i (versions i) ∷ objects_of (record e { next_own = e.next_own + 1 }) versions is

-- whether it is an object of the interface
abbrev pub is_one_of : KnownInterface → ObjectView → Bool
is_one_of interface o = same_name o.interface (Known interface)

-- the object of the interface among these
abbrev pub object_of : KnownInterface → List ObjectView → Option ObjectView
object_of interface objects = find (is_one_of interface) objects

-- the event of an item of a device's description; a keymap goes to its keyboard
abbrev pub keymap_events : ℕ → ℕ → Handle → Option ObjectView → List Raw
keymap_events kind size handle None = []
keymap_events kind size handle (Some keyboard) = event known.Keyboard (codes "keymap") keyboard.id (Word kind ∷ Word size ∷ Fd handle ∷ []) ∷ []

abbrev pub setup_event : ℕ → Option ObjectView → DeviceSetup → List Raw
setup_event device keyboard (setup.Dimensions width height) = event known.Device (codes "dimensions") device (Word width ∷ Word height ∷ []) ∷ []
setup_event device keyboard (setup.RegionMappingId id) = event known.Device (codes "region_mapping_id") device (Letters id.now ∷ []) ∷ []
setup_event device keyboard (setup.Region x y width hight scale) = event known.Device (codes "region") device (Word x ∷ Word y ∷ Word width ∷ Word
    hight ∷ Word scale.0 ∷ []) ∷ []
setup_event device keyboard (setup.Keymap kind size handle) = keymap_events (keymap_type_number kind) size handle keyboard

abbrev pub setup_events : ℕ → Option ObjectView → List DeviceSetup → List Raw
setup_events device keyboard items = flat_map (setup_event device keyboard) items

-- the handles that go with it
abbrev pub setup_handle : DeviceSetup → List Handle
setup_handle (setup.Keymap kind size handle) = handle ∷ []
setup_handle item = []

abbrev pub setup_handles : List DeviceSetup → List Handle
setup_handles items = flat_map setup_handle items

-- an item of a device's description is told
abbrev pub tells_item : Endpoint → ℕ → Option ObjectView → DeviceSetup → Endpoint
tells_item e device keyboard item = record (sends_on e (setup_event device keyboard item)) { unsent_handles = e.unsent_handles ++ setup_handle item }

-- the items of a device's description are told
abbrev pub tells_items : Endpoint → ℕ → Option ObjectView → List DeviceSetup → Endpoint
tells_items e device keyboard items =
    record (sends_on e (setup_events device keyboard items)) { unsent_handles = e.unsent_handles ++ setup_handles items }

-- the text of an item, if it has one
abbrev pub item_letters : DeviceSetup → Option (List ℕ)
item_letters (setup.RegionMappingId id) = Some id.now
item_letters item = None

-- how many bytes the event of an item has at most, and those of all
abbrev pub item_room : DeviceSetup → ℕ
item_room item = length (name_text (item_letters item)) + MOST_ITEM_BYTES

abbrev pub setup_room : List DeviceSetup → ℕ
setup_room items = sum_by item_room items

-- the condition of a description: a keymap comes only where the device gets a keyboard
abbrev pub NeedsKeyboard : DeviceSetup → Type 0
NeedsKeyboard (setup.Keymap kind size handle) = Unit {0}
NeedsKeyboard item = ⊥

-- the seat of that id is held, and gives a device of these capabilities a keyboard
abbrev pub IsGiven : ConnectionView → ℕ → DeviceCapabilities → Type 0
IsGiven c seat wanted = has_keyboard (granted_at c seat wanted) ≡ true

-- whether the message of an item would be too long
abbrev pub is_long_item : ℕ → DeviceSetup → Bool
is_long_item device item = list_any is_long (setup_event device None item)

-- whether a text of a device's description is too long
abbrev pub is_long_description : ℕ → Option (List ℕ) → List DeviceSetup → Bool
is_long_description device name items = is_long_name (device_name_event device) name || list_any (is_long_item device) items

-- fewer own ids are left than a device with these interfaces needs: one for itself, and one for each of them
abbrev pub LacksIds : TableView → List KnownInterface → Type 0
LacksIds t interfaces = own_end t < t.next_own + (length interfaces + 1)

-- there are ids for it, but a text of its description is too long
abbrev pub HasLongText : TableView → List KnownInterface → Option (List ℕ) → List DeviceSetup → Type 0
HasLongText t interfaces name items = (t.next_own + (length interfaces + 1) ≤ own_end t) × (is_long_description t.next_own name items ≡ true)

-- a new device is announced, and what it is is said
abbrev pub begins_device : Endpoint → ℕ → ℕ → Option (List ℕ) → DeviceType → Endpoint
begins_device e seat v name kind =
    sends_on (announces e (device_event seat e.next_own v) known.Device v) (named_by (device_name_event e.next_own) name ++ device_type_event
    e.next_own (device_type_number kind) ∷ [])

-- the description of a device ends
abbrev pub ends_device : Endpoint → ℕ → Option ObjectView → List DeviceSetup → Endpoint
ends_device e device keyboard items =
    record (sends_on e (setup_events device keyboard items ++ device_done_event device ∷ [])) { unsent_handles = e.unsent_handles ++ setup_handles items }

-- What is held of a new device: its key, its name, and an object for each of its interfaces.
abbrev pub new_device : Endpoint → VersionMap → ObjectView → Option (List ℕ) → List KnownInterface → DeviceView
new_device e versions seat name interfaces = record {
  device = record { seat = seat; proxy = next_object e known.Device (version_in versions known.Device) };
  name = name;
  interfaces = objects_of (record e { next_own = e.next_own + 1 }) (version_in versions) interfaces;
  waiting = [];
  touches = [];
}

-- the endpoint with a new device, announced and described
abbrev pub makes_device : Endpoint → VersionMap → ℕ → Option (List ℕ) → DeviceType → List DeviceSetup → DeviceView → List KnownInterface → Endpoint
makes_device e versions seat name kind items d interfaces =
    ends_device (announces_all (begins_device e seat (version_in versions known.Device) name kind) (version_in versions) e.next_own interfaces)
    e.next_own (object_of known.Keyboard d.interfaces) items

-- A new device of the seat, with these interfaces, is held, and the client was told.
pub record AddsDevice (old : ConnectionView) (seat : ObjectView) (name : Option (List ℕ)) (kind : DeviceType) (interfaces : List KnownInterface)
    (items : List DeviceSetup) (new : ConnectionView) : Type 0 where
  pub endpoint : endpoint_of new.ctx ≡ makes_device (endpoint_of old.ctx) old.negotiated seat.id name kind items (new_device (endpoint_of old.ctx)
      old.negotiated seat name interfaces) interfaces
  pub rest : new ≡ record old { ctx = new.ctx; devices = old.devices ++ new_device (endpoint_of old.ctx) old.negotiated seat name interfaces ∷ [] }
