-- The seats, the devices and their interfaces, told by what was said before a position, the newest first.
use Rattle.std.specs.Prelude.{ℕ, Bool, true, false, not, ◌&&◌, ◌||◌, List, Option, Some, None, is_some, ◌==◌, if◌then◌else◌}
use Rattle.std.specs.Str.{bytes_eq}
use Rattle.ei_spec.specs.History.{last_said, lasts}
use Rattle.ei_reported.specs.Said.{Said, SeatComes, SeatDone, SeatGoes, DeviceComes, DeviceHasType, DeviceGets, DeviceDone, DeviceGoes, Goes}

-- ---- seats

-- whether the event announces the seat
abbrev pub seat_comes : ℕ → Said → Bool
seat_comes seat (SeatComes s) = s == seat
seat_comes seat m = false

-- whether it is the `done` of the seat
abbrev pub seat_done : ℕ → Said → Bool
seat_done seat (SeatDone s) = s == seat
seat_done seat m = false

-- whether it is the `destroyed` of the seat
abbrev pub seat_goes : ℕ → Said → Bool
seat_goes seat (SeatGoes s serial) = s == seat
seat_goes seat m = false

-- the seat came, and neither its `done` nor its `destroyed` since
unfoldable pub seat_pending : List Said → ℕ → Bool
seat_pending before seat = lasts (λ b m. seat_comes seat m) (λ b m. seat_done seat m || seat_goes seat m) before

-- a `done` of the seat, while it is pending
unfoldable pub adds_seat : ℕ → List Said → Said → Bool
adds_seat seat before m = elim (seat_done seat m) [ true ↦ seat_pending before seat | false ↦ false ]

-- the seat was added, and its `destroyed` didn't come since
unfoldable pub seat_added : List Said → ℕ → Bool
seat_added before seat = lasts (adds_seat seat) (λ b m. seat_goes seat m) before

-- ---- devices

-- the seat that announces the device, where that seat is added
unfoldable pub announces : ℕ → List Said → Said → Option ℕ
announces device before (DeviceComes seat d) = elim (d == device) [
  | true ↦ elim (seat_added before seat) [ true ↦ Some seat | false ↦ None ]
  | false ↦ None
]
announces device before m = None

-- a seat that is added announces the device
unfoldable pub device_comes : ℕ → List Said → Said → Bool
device_comes device before m = is_some (announces device before m)

-- the seat that announced the device last
unfoldable pub seat_of : List Said → ℕ → Option ℕ
seat_of before device = last_said (announces device) before

-- whether the event is a type of the device
abbrev pub device_typed_by : ℕ → Said → Bool
device_typed_by device (DeviceHasType d) = d == device
device_typed_by device m = false

-- whether it is the `done` of the device
abbrev pub device_done : ℕ → Said → Bool
device_done device (DeviceDone d) = d == device
device_done device m = false

-- whether it is the `destroyed` of the device
abbrev pub device_goes : ℕ → Said → Bool
device_goes device (DeviceGoes d serial) = d == device
device_goes device m = false

-- the device came, and neither its `done` nor its `destroyed` since
unfoldable pub device_pending : List Said → ℕ → Bool
device_pending before device = lasts (device_comes device) (λ b m. device_done device m || device_goes device m) before

-- its type came, and it didn't come since
unfoldable pub device_typed : List Said → ℕ → Bool
device_typed before device = lasts (λ b m. device_typed_by device m) (device_comes device) before

-- a `done` of the device while it is pending, with its type, or without it
unfoldable pub completes : Bool → ℕ → List Said → Said → Bool
completes typed device before m = elim (device_done device m) [
  | true ↦ elim (device_pending before device) [
    | true ↦ (if typed then device_typed before device else not (device_typed before device))
    | false ↦ false
  ]
  | false ↦ false
]

-- the device was added, and its `destroyed` didn't come since
unfoldable pub device_added : List Said → ℕ → Bool
device_added before device = lasts (completes true device) (λ b m. device_goes device m) before

-- ---- interfaces

-- what an interface was announced as: an interface of a device, by its name and version
pub record Offer : Type 0 where
  pub device : ℕ
  pub name : List ℕ
  pub version : ℕ

-- such an announcement
abbrev pub offer : ℕ → List ℕ → ℕ → Offer
offer device name version = record { device = device; name = name; version = version }

-- the announcement of the interface, to a device that is pending
unfoldable pub offers : ℕ → List Said → Said → Option Offer
offers id before (DeviceGets d i name version) = elim (i == id) [
  | true ↦ elim (device_pending before d) [ true ↦ Some (offer d name version) | false ↦ None ]
  | false ↦ None
]
offers id before m = None

-- What takes the interface from its device: another of the same name, while the device is pending; that the device goes,
-- or is done without a type; and that the interface goes, while the device is added.
unfoldable pub takes : ℕ → Offer → List Said → Said → Bool
takes id o before (DeviceGets d i name version) = elim ((d == o.device) && bytes_eq name o.name) [
  | true ↦ device_pending before d
  | false ↦ false
]
takes id o before (DeviceGoes d serial) = d == o.device
takes id o before (DeviceDone d) = elim (d == o.device) [ true ↦ completes false d before (DeviceDone d) | false ↦ false ]
takes id o before (Goes interface i serial) = elim (i == id) [ true ↦ device_added before o.device | false ↦ false ]
takes id o before m = false

-- whether the interface, as it was announced, is still with its device
unfoldable pub is_held : ℕ → Offer → List Said → Bool
is_held id o before = lasts (λ b m. is_some (offers id b m)) (takes id o) before

-- what was announced, where the device still has it
abbrev pub if_held : List Said → ℕ → Option Offer → Option Offer
if_held before id None = None
if_held before id (Some o) = if is_held id o before then Some o else None

-- the interface of that id, if a device has it
unfoldable pub interface : List Said → ℕ → Option Offer
interface before id = if_held before id (last_said (offers id) before)

-- its device, where that is added
abbrev pub if_added : List Said → Option Offer → Option ℕ
if_added before None = None
if_added before (Some o) = if device_added before o.device then Some o.device else None

-- the added device that has the interface
unfoldable pub holder : List Said → ℕ → Option ℕ
holder before id = if_added before (interface before id)

-- whether its device is pending
abbrev pub if_pending : List Said → Option Offer → Bool
if_pending before None = false
if_pending before (Some o) = device_pending before o.device

-- whether a pending device has the interface
unfoldable pub is_in_setup : List Said → ℕ → Bool
is_in_setup before id = if_pending before (interface before id)
