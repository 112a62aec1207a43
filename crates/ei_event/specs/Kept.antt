-- What a client's converter keeps of the seats, the devices and their interfaces.
use Rattle.std.specs.Prelude.{◌≡◌, ℕ, Bool, true, false, not, ◌&&◌, List, [], ◌∷◌, ◌++◌, Option, Some, None, ◌==◌, if◌then◌else◌, slice_set, refl}
use Rattle.std.specs.Str.{bytes_eq}
use Rattle.std.specs.Ordering.{nat_cmp}
use Rattle.std.specs.FinMap as finite
use Rattle.std.specs.Coded.{Coded, code_by, coded×, coded_ℕ, coded_bool, coded_list, coded_option}
use Rattle.ei_spec.specs.declared.interface.KnownInterface.{KnownInterface}
use Rattle.ei_spec.specs.Interface.{ObjectView, Known, bytes_of}
use Rattle.ei_types.specs.declared.capability.DeviceCapability.{DeviceCapability}
use Rattle.ei_types.specs.Capability.{index_of}
use Rattle.ei_types.specs.declared.enums.DeviceType.{DeviceType}
use Rattle.ei_types.specs.contracts.enums.DeviceType as device_type
use Rattle.ei_input.specs.declared.input_event.InputEvent.{InputEvent}
use Rattle.ei_input.specs.contracts.input_event.InputEvent as input
use Rattle.ei_backend.specs.Codes.{object_code}
use Rattle.ei_backend.specs.Object.{same_name}
use Rattle.ei_handshake.specs.Versions.{VersionMap, version_code}
use Rattle.ei_by_id.specs.ById.{kept}
use Rattle.ei_event.specs.Connection.{ConnectionView}
use Rattle.ei_event.specs.Keys.{DeviceKey, device_key_code}
use Rattle.ei_event.specs.declared.region.Region.{Region}
use Rattle.ei_event.specs.contracts.region.Region as region
use Rattle.ei_event.specs.declared.keymap.Keymap.{Keymap}
use Rattle.ei_event.specs.contracts.keymap.Keymap as keymap
use Rattle.ei_event.specs.declared.event.EiEvent.{EiEvent}
use Rattle.ei_event.specs.contracts.event.EiEvent as event

-- ---- what is kept

-- a seat: its name, the masks of the capabilities by rising bit, 0 for one that wasn't announced, and whether it is added, or else pending
pub record SeatView : Type 0 where
  pub name : Option (List ℕ)
  pub masks : List ℕ
  pub added : Bool

abbrev pub seat_code : Coded SeatView
seat_code = code_by (Option (List ℕ) × (List ℕ × Bool)) (coded× (coded_option (coded_list coded_ℕ)) (coded× (coded_list coded_ℕ) coded_bool))
    (λ s. (s.name, (s.masks, s.added))) (λ p. record { name = p.0; masks = p.1.0; added = p.1.1 }) (λ _. refl)

-- a device: its key, how it is described, the mapping id of its next region, the inputs that wait on it, and whether it is
-- added, or else pending
pub record DeviceView : Type 0 where
  pub device : DeviceKey
  pub name : Option (List ℕ)
  pub kind : Option DeviceType
  pub dimensions : Option (ℕ × ℕ)
  pub regions : List Region
  pub mapping_id : Option (List ℕ)
  pub keymap : Option Keymap
  pub waiting : List InputEvent
  pub added : Bool

abbrev pub device_code : Coded DeviceView
device_code = code_by (DeviceKey × (Option (List ℕ) × (Option DeviceType × (Option (ℕ × ℕ) × (List Region × (Option (List ℕ) × (Option Keymap × (List InputEvent × Bool))))))))
    (coded× device_key_code (coded× (coded_option (coded_list coded_ℕ)) (coded× (coded_option device_type.the_row.coded) (coded× (coded_option (coded× coded_ℕ coded_ℕ))
    (coded× (coded_list region.the_row.coded) (coded× (coded_option (coded_list coded_ℕ)) (coded× (coded_option keymap.the_row.coded) (coded× (coded_list input.the_row.coded) coded_bool))))))))
    (λ d. (d.device, (d.name, (d.kind, (d.dimensions, (d.regions, (d.mapping_id, (d.keymap, (d.waiting, d.added)))))))))
    (λ p. record {
      device = p.0;
      name = p.1.0;
      kind = p.1.1.0;
      dimensions = p.1.1.1.0;
      regions = p.1.1.1.1.0;
      mapping_id = p.1.1.1.1.1.0;
      keymap = p.1.1.1.1.1.1.0;
      waiting = p.1.1.1.1.1.1.1.0;
      added = p.1.1.1.1.1.1.1.1;
    }) (λ _. refl)

-- an interface: the id of its device, and its object
pub record InterfaceView : Type 0 where
  pub device : ℕ
  pub object : ObjectView

abbrev pub interface_code : Coded InterfaceView
interface_code = code_by (ℕ × ObjectView) (coded× coded_ℕ object_code) (λ i. (i.device, i.object)) (λ p. record { device = p.0; object = p.1 }) (λ _. refl)

-- the connection's object, the last serial, the versions that the server told, the seats, the devices and the interfaces by their
-- ids, and the events that wait to be handed out
pub record KeptView : Type 0 where
  pub proxy : ObjectView
  pub serial : ℕ
  pub negotiated : VersionMap
  pub seats : finite.FinMap nat_cmp SeatView
  pub devices : finite.FinMap nat_cmp DeviceView
  pub interfaces : finite.FinMap nat_cmp InterfaceView
  pub queue : List EiEvent

abbrev pub kept_code : Coded KeptView
kept_code = code_by
    (ObjectView × (ℕ × (VersionMap × (finite.FinMap nat_cmp SeatView × (finite.FinMap nat_cmp DeviceView × (finite.FinMap nat_cmp InterfaceView × List EiEvent))))))
    (coded× object_code (coded× coded_ℕ (coded× version_code (coded× (finite.code coded_ℕ seat_code) (coded× (finite.code coded_ℕ device_code)
    (coded× (finite.code coded_ℕ interface_code) (coded_list event.the_row.coded)))))))
    (λ c. (c.proxy, (c.serial, (c.negotiated, (c.seats, (c.devices, (c.interfaces, c.queue)))))))
    (λ p. record {
      proxy = p.0;
      serial = p.1.0;
      negotiated = p.1.1.0;
      seats = p.1.1.1.0;
      devices = p.1.1.1.1.0;
      interfaces = p.1.1.1.1.1.0;
      queue = p.1.1.1.1.1.1;
    }) (λ _. refl)

-- nothing is kept yet, right after a handshake
abbrev pub new_kept : ConnectionView → KeptView
new_kept c = record {
  proxy = c.proxy;
  serial = c.serial;
  negotiated = c.negotiated;
  seats = finite.empty;
  devices = finite.empty;
  interfaces = finite.empty;
  queue = [];
}

-- ---- which one

-- a seat, where it is pending
abbrev pub pending_seat : Option SeatView → Option SeatView
pending_seat None = None
pending_seat (Some s) = if s.added then None else Some s

-- a seat, where it is added
abbrev pub added_seat : Option SeatView → Option SeatView
added_seat None = None
added_seat (Some s) = if s.added then Some s else None

-- a device, where it is pending
abbrev pub pending_device : Option DeviceView → Option DeviceView
pending_device None = None
pending_device (Some d) = if d.added then None else Some d

-- a device, where it is added
abbrev pub added_device : Option DeviceView → Option DeviceView
added_device None = None
added_device (Some d) = if d.added then Some d else None

-- the id of the device that has the interface of that id
abbrev pub owner_of : Option InterfaceView → Option ℕ
owner_of None = None
owner_of (Some i) = Some i.device

abbrev pub owner : KeptView → ℕ → Option ℕ
owner c id = owner_of (finite.get c.interfaces id)

-- a device has the interface: what was noted of the last one that was asked for
abbrev pub IsLast : finite.FinMap nat_cmp InterfaceView → Option (ℕ × ℕ) → Type 0
IsLast all None = Unit {0}
IsLast all (Some last) = owner_of (finite.get all last.0) ≡ Some last.1

-- whether the interface is another than that of the device by the name
abbrev pub is_other : ℕ → List ℕ → InterfaceView → Bool
is_other device name i = not ((device == i.device) && bytes_eq name (bytes_of i.object.interface))

-- whether the interface is of another device
abbrev pub is_of_other : ℕ → InterfaceView → Bool
is_of_other device i = not (device == i.device)

-- whether it is of the device, and this interface
abbrev pub is_interface_of : ℕ → KnownInterface → InterfaceView → Bool
is_interface_of device interface i = (device == i.device) && same_name i.object.interface (Known interface)

-- ---- how one changes

-- a seat that comes
abbrev pub new_seat : SeatView
new_seat = record { name = None; masks = 0 ∷ 0 ∷ 0 ∷ 0 ∷ 0 ∷ 0 ∷ 0 ∷ 0 ∷ []; added = false }

abbrev pub named_seat : List ℕ → SeatView → SeatView
named_seat name s = record s { name = Some name }

abbrev pub masked_seat : DeviceCapability → ℕ → SeatView → SeatView
masked_seat capability mask s = record s { masks = slice_set s.masks (index_of capability) mask }

abbrev pub whole_seat : SeatView → SeatView
whole_seat s = record s { added = true }

-- a device that comes
abbrev pub new_device : DeviceKey → DeviceView
new_device key = record {
  device = key;
  name = None;
  kind = None;
  dimensions = None;
  regions = [];
  mapping_id = None;
  keymap = None;
  waiting = [];
  added = false;
}

abbrev pub named : List ℕ → DeviceView → DeviceView
named name d = record d { name = Some name }

abbrev pub typed : DeviceType → DeviceView → DeviceView
typed kind d = record d { kind = Some kind }

abbrev pub sized : ℕ → ℕ → DeviceView → DeviceView
sized width height d = record d { dimensions = Some (width, height) }

-- a mapping id serves the next region alone
abbrev pub mapped : List ℕ → DeviceView → DeviceView
mapped mapping_id d = record d { mapping_id = Some mapping_id }

abbrev pub with_region : Region → DeviceView → DeviceView
with_region r d = record d { regions = d.regions ++ record r { mapping_id = d.mapping_id } ∷ []; mapping_id = None }

abbrev pub keyed_by : Keymap → DeviceView → DeviceView
keyed_by keymap d = record d { keymap = Some keymap }

abbrev pub whole : DeviceView → DeviceView
whole d = record d { added = true }

abbrev pub with_input : InputEvent → DeviceView → DeviceView
with_input input d = record d { waiting = d.waiting ++ input ∷ [] }

abbrev pub emptied : DeviceView → DeviceView
emptied d = record d { waiting = [] }

-- ---- where it is kept

abbrev pub with_seat : KeptView → ℕ → SeatView → KeptView
with_seat c id s = record c { seats = finite.insert c.seats id s }

abbrev pub with_device : KeptView → ℕ → DeviceView → KeptView
with_device c id d = record c { devices = finite.insert c.devices id d }

abbrev pub queues : KeptView → List EiEvent → KeptView
queues c more = record c { queue = c.queue ++ more }

-- the device is gone, and its interfaces with it
abbrev pub drops : KeptView → ℕ → KeptView
drops c id = record c { devices = finite.remove c.devices id; interfaces = kept (is_of_other id) c.interfaces }
