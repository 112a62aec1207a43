-- What is asked of an act, so that its messages may be sent.
use Rattle.std.specs.Prelude.{◌≡◌, ℕ, ◌<◌, ◌^◌, Bool, true, false, List, [], ◌∷◌, Option, Some, None}
use Rattle.std.specs.Str.{is_utf8}
use Rattle.ei_spec.specs.declared.interface.KnownInterface.{KnownInterface}
use Rattle.ei_spec.specs.declared.interface.KnownInterface.TheVariants as known
use Rattle.ei_spec.specs.Interface.{Interface, Known, ObjectView}
use Rattle.ei_spec.specs.Piece.{Piece}
use Rattle.ei_backend.specs.Table.{TableView, found}
use Rattle.ei_ends.specs.Sent.{Sent}
use Rattle.ei_ends.specs.Announced.{announced}
use Rattle.ei_ends.specs.Way.{End, seen_by}
use Rattle.ei_ends.specs.Joined.{Joined, acquainted}
use Rattle.ei_request.specs.declared.making.DeviceSetup.{DeviceSetup}
use Rattle.ei_request.specs.declared.making.DeviceSetup.TheVariants as setup
use Rattle.ei_request.specs.Held.{SeatView, DeviceView, device_ids}
use Rattle.ei_request.specs.Connection.{ConnectionView}
use Rattle.ei_acts.specs.Holding.{is_a_seat, AllGoAs}

-- ---- the end that has the connection

-- the end sent a message that announced the object of that id as one of the interface, of that version
abbrev pub Announces : List Sent → ℕ → KnownInterface → ℕ → Type 0
Announces sent id interface version = announced true sent id ≡ Some (record { id = id; interface = Known interface; version = version })

-- the object was announced so
abbrev pub AnnouncesIt : List Sent → KnownInterface → ObjectView → Type 0
AnnouncesIt sent interface o = Announces sent o.id interface o.version

-- the object of that id as the end announced it
abbrev pub announced_in : List Sent → ℕ → Option ObjectView
announced_in sent id = seen_by false (announced true sent id)

-- the end made or read the object of that id as one of the interface, of that version
abbrev pub Knows : End → ℕ → KnownInterface → ℕ → Type 0
Knows x id interface version = acquainted true x.sent x.taken id ≡ Some (record { id = id; interface = Known interface; version = version })

-- the object is in the table, as one of the interface
pub record IsObject (t : TableView) (interface : KnownInterface) (o : ObjectView) : Type 0 where
  pub there : found t o.id ≡ Some o
  pub is : o.interface ≡ Known interface

abbrev pub is_device_interface : Interface → Bool
is_device_interface (Known known.Device) = true
is_device_interface interface = false

-- whether it is a device
abbrev pub is_a_device : Option ObjectView → Bool
is_a_device None = false
is_a_device (Some o) = is_device_interface o.interface

-- a device is looked up as one, and it may go with the interfaces that it has left
pub record DeviceGoes (objects : ℕ → Option ObjectView) (d : DeviceView) : Type 0 where
  pub goes : AllGoAs objects (device_ids d)
  pub is_device : is_a_device (objects d.device.proxy.id) ≡ true

abbrev pub AllDevicesGo : (ℕ → Option ObjectView) → List DeviceView → Type 0
AllDevicesGo objects [] = Unit {0}
AllDevicesGo objects (d ∷ ds) = DeviceGoes objects d × AllDevicesGo objects ds

-- each of these seats is looked up as one
abbrev pub AllSeatsGo : (ℕ → Option ObjectView) → List SeatView → Type 0
AllSeatsGo objects [] = Unit {0}
AllSeatsGo objects (s ∷ ss) = (is_a_seat (objects s.proxy.id) ≡ true) × AllSeatsGo objects ss

-- all that a connection holds was announced by these messages
pub record HoldsAnnounced (sent : List Sent) (c : ConnectionView) : Type 0 where
  pub devices : AllDevicesGo (announced_in sent) c.devices
  pub seats : AllSeatsGo (announced_in sent) c.seats

-- a server's end, joined with some client, has the endpoint of the connection
pub record IsEndOf (x : End) (c : ConnectionView) : Type 0 where
  pub client : End
  pub to_client : Piece
  pub to_server : Piece
  pub joined : Joined true x client to_client to_server
  pub backend : x.backend ≡ c.ctx

-- ---- texts and numbers

-- a name is a text, if there is one
abbrev pub IsText : Option (List ℕ) → Type 0
IsText None = Unit {0}
IsText (Some name) = is_utf8 name ≡ true

-- the numbers of an item have four bytes each, and its text is one
abbrev pub IsLawful : DeviceSetup → Type 0
IsLawful (setup.Dimensions width height) = (width < 2 ^ 32) × (height < 2 ^ 32)
IsLawful (setup.RegionMappingId id) = is_utf8 id.now ≡ true
IsLawful (setup.Region x y width hight scale) = (x < 2 ^ 32) × (y < 2 ^ 32) × (width < 2 ^ 32) × (hight < 2 ^ 32) × (scale.0 < 2 ^ 32)
IsLawful (setup.Keymap kind size handle) = size < 2 ^ 32

abbrev pub AreLawful : List DeviceSetup → Type 0
AreLawful [] = Unit {0}
AreLawful (item ∷ items) = IsLawful item × AreLawful items
