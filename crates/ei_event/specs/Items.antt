-- What a user is answered of a seat and of a device.
use Rattle.std.specs.Prelude.{◌≡◌, ℕ, Bool, true, List, [], ◌∷◌, Option, Some, None, is_some, slice_index_or, if◌then◌else◌, ◌==◌}
use Rattle.std.specs.Int.RustNames.{bit_or}
use Rattle.std.specs.FinMap as finite
use Rattle.ei_spec.specs.declared.interface.KnownInterface.{KnownInterface}
use Rattle.ei_spec.specs.Interface.{ObjectView, Known}
use Rattle.ei_types.specs.declared.capability.DeviceCapability.{DeviceCapability}
use Rattle.ei_types.specs.declared.capability.DeviceCapabilities.{DeviceCapabilities}
use Rattle.ei_types.specs.Capability.{capability_list, index_of, holds}
use Rattle.ei_types.specs.declared.enums.DeviceType.{DeviceType}
use Rattle.ei_event.specs.Connection.{ConnectionView}
use Rattle.ei_event.specs.Keys.{DeviceKey}
use Rattle.ei_event.specs.declared.region.Region.{Region}
use Rattle.ei_event.specs.declared.keymap.Keymap.{Keymap}
use Rattle.ei_event.specs.Kept.{SeatView, DeviceView, KeptView, added_seat, added_device}

-- the connection that is kept
abbrev pub connection_of : KeptView → ConnectionView
connection_of c = record { proxy = c.proxy; serial = c.serial; negotiated = c.negotiated }

-- the seat of that id, where it is added
abbrev pub seat_in : KeptView → ℕ → Option SeatView
seat_in c id = added_seat (finite.get c.seats id)

-- whether the seat of that id is added: it isn't where it is pending, removed or unknown
abbrev pub seat_added_in : KeptView → ℕ → Bool
seat_added_in c id = is_some (seat_in c id)

-- the device, where it is one of that seat
abbrev pub of_seat : ℕ → Option DeviceView → Option DeviceView
of_seat seat None = None
of_seat seat (Some d) = if d.device.seat.id == seat then Some d else None

-- the device of that key, where it is added
abbrev pub device_in : KeptView → DeviceKey → Option DeviceView
device_in c key = of_seat key.seat.id (added_device (finite.get c.devices key.proxy.id))

-- whether the device of that key is added: it isn't where it is pending, removed or unknown
abbrev pub added_in : KeptView → DeviceKey → Bool
added_in c key = is_some (device_in c key)

abbrev pub name_of_seat : Option SeatView → Option (List ℕ)
name_of_seat None = None
name_of_seat (Some s) = s.name

-- the masks of these capabilities together, with those of others
abbrev pub united : (DeviceCapability → ℕ) → ℕ → List DeviceCapability → ℕ
united mask others [] = others
united mask others (one ∷ more) = united mask (bit_or others (mask one)) more

-- the mask of a capability, where it is one of these
abbrev pub mask_for : DeviceCapabilities → List ℕ → DeviceCapability → ℕ
mask_for set masks one = if holds set one then slice_index_or masks (index_of one) 0 else 0

-- the union of the masks that the seat announced for these capabilities
abbrev pub bound : DeviceCapabilities → Option SeatView → ℕ
bound set None = 0
bound set (Some s) = united (mask_for set s.masks) 0 capability_list

abbrev pub name_of : Option DeviceView → Option (List ℕ)
name_of None = None
name_of (Some d) = d.name

abbrev pub type_of : Option DeviceView → Option DeviceType
type_of None = None
type_of (Some d) = d.kind

abbrev pub dimensions_of : Option DeviceView → Option (ℕ × ℕ)
dimensions_of None = None
dimensions_of (Some d) = d.dimensions

abbrev pub regions_of : Option DeviceView → List Region
regions_of None = []
regions_of (Some d) = d.regions

abbrev pub keymap_of : Option DeviceView → Option Keymap
keymap_of None = None
keymap_of (Some d) = d.keymap

-- the device is added, and has the interface, as this object
pub record HasInterface (c : KeptView) (key : DeviceKey) (interface : KnownInterface) (object : ObjectView) : Type 0 where
  pub added : added_in c key ≡ true
  pub id : ℕ
  pub kept : finite.get c.interfaces id ≡ Some (record { device = key.proxy.id; object = object })
  pub is : object.interface ≡ Known interface

-- what the device has the interface as; none exactly where it isn't added, or hasn't it
abbrev pub IsInterfaceOf : KeptView → DeviceKey → KnownInterface → Option ObjectView → Type 0
IsInterfaceOf c key interface None = (object : ObjectView) → HasInterface c key interface object → ⊥
IsInterfaceOf c key interface (Some object) = HasInterface c key interface object
