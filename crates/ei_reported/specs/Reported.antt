-- What a client is told of a list of events: why some are refused, and what the others give.
use Rattle.std.specs.Prelude.{ℕ, Bool, true, false, ◌||◌, List, [], ◌∷◌, map, Option, Some, None, is_some, unwrap_or, if◌then◌else◌}
use Rattle.ei_spec.specs.declared.interface.KnownInterface.{KnownInterface}
use Rattle.ei_spec.specs.declared.interface.KnownInterface.TheVariants as known
use Rattle.ei_types.specs.declared.enums.DisconnectReason.{DisconnectReason}
use Rattle.ei_types.specs.declared.error.EventError.{EventError}
use Rattle.ei_types.specs.declared.error.EventError.TheVariants as event
use Rattle.ei_types.specs.Capability.{capability_named}
use Rattle.ei_input.specs.declared.input_event.InputEvent.{InputEvent}
use Rattle.ei_spec.specs.FromValues.{first}
use Rattle.ei_spec.specs.History.{last_said, each, joined}
use Rattle.ei_spec.specs.Groups.{Item, Input as Waiting, Frame as Framing, Other, Free, Given, seen, Slot, gives}
use Rattle.ei_reported.specs.Event.{Event}
use Rattle.ei_reported.specs.Said.{Told, Resumed, Paused, StartEmulating, StopEmulating, Frame}
use Rattle.ei_reported.specs.Said.{Said, Shakes, Disconnects, SeatHasName, SeatHas, SeatDone, SeatGoes, DeviceComes, DeviceHas, DeviceHasType}
use Rattle.ei_reported.specs.Said.{DeviceGets, DeviceDone, DeviceTells, DeviceGoes, Maps, Inputs, Modifies, Goes, said}
use Rattle.ei_reported.specs.Standing.{seat_pending, seat_added, seat_of, device_pending, device_typed, device_added, holder, is_in_setup}

-- a device as the user has it: its seat's id, and its own
pub record Device : Type 0 where
  pub seat : ℕ
  pub id : ℕ

-- the device of that id, of the seat that announced it
abbrev pub device_of : List Said → ℕ → Device
device_of before id = record { seat = unwrap_or (seat_of before id) 0; id = id }

-- an event for the client's user that is no input and no frame
pub data Plain : Type 0 where
  Disconnected : (last_serial : ℕ) → (why : DisconnectReason) → (explanation : Option (List ℕ)) → Plain
  SeatAdded : (seat : ℕ) → Plain
  SeatRemoved : (seat : ℕ) → Plain
  DeviceAdded : (device : Device) → Plain
  DeviceRemoved : (device : Device) → Plain
  DevicePaused : (device : Device) → (serial : ℕ) → Plain
  DeviceResumed : (device : Device) → (serial : ℕ) → Plain
  KeyboardModifiers : (device : Device) → (serial depressed latched locked group : ℕ) → Plain
  DeviceStartEmulating : (device : Device) → (serial sequence : ℕ) → Plain
  DeviceStopEmulating : (device : Device) → (serial : ℕ) → Plain

-- an event as the user is given it: an input with its time, a frame, or another
abbrev pub Report : Type 0
Report = Given Device InputEvent Plain

-- what an event gives, before inputs are grouped
abbrev pub Giving : Type 0
Giving = Item InputEvent Plain

-- ---- why an event is refused

-- the error, unless the test holds
abbrev pub unless : Bool → EventError → Option EventError
unless holds e = if holds then None else Some e

-- whether an interface goes without a word where no added device has it
abbrev pub goes_freely : KnownInterface → Bool
goes_freely known.Keyboard = true
goes_freely known.Text = true
goes_freely interface = false

-- why what is said is refused, or nothing
abbrev pub refusal : List Said → Said → Option EventError
refusal before Shakes = Some event.UnexpectedHandshakeEvent
refusal before (SeatHasName seat) = unless (seat_pending before seat) event.SeatSetupEventAfterDone
refusal before (SeatHas seat name) = first
    (unless (seat_pending before seat) event.SeatSetupEventAfterDone
    ∷ unless (is_some (capability_named name)) event.UnknownCapabilityInterface
    ∷ [])
refusal before (SeatDone seat) = unless (seat_pending before seat) event.SeatSetupEventAfterDone
refusal before (DeviceComes seat device) = unless (seat_added before seat) event.SeatEventBeforeDone
refusal before (DeviceHas device) = unless (device_pending before device) event.DeviceSetupEventAfterDone
refusal before (DeviceHasType device) = unless (device_pending before device) event.DeviceSetupEventAfterDone
refusal before (DeviceGets device id name version) = unless (device_pending before device) event.DeviceSetupEventAfterDone
refusal before (DeviceDone device) = first
    (unless (device_pending before device) event.DeviceSetupEventAfterDone
    ∷ unless (device_typed before device) event.NoDeviceType
    ∷ [])
refusal before (DeviceTells device serial told) = unless (device_added before device) event.DeviceEventBeforeDone
refusal before (Maps id) = unless (is_in_setup before id) event.DeviceSetupEventAfterDone
refusal before (Inputs id input) = unless (is_some (holder before id)) event.DeviceEventBeforeDone
refusal before (Modifies id serial depressed locked latched group) = unless (is_some (holder before id)) event.DeviceEventBeforeDone
refusal before (Goes interface id serial) = if goes_freely interface then None else unless (is_some (holder before id)) event.DeviceEventBeforeDone
refusal before m = None

-- ---- what one gives that isn't refused

-- what a device tells
abbrev pub telling : Device → ℕ → Told → Giving
telling device serial Resumed = Other device.id (DeviceResumed device serial)
telling device serial Paused = Other device.id (DevicePaused device serial)
telling device serial (StartEmulating sequence) = Other device.id (DeviceStartEmulating device serial sequence)
telling device serial StopEmulating = Other device.id (DeviceStopEmulating device serial)
telling device serial (Frame time) = Framing device.id serial time

-- an input of the device that has the interface
abbrev pub waiting : InputEvent → Option ℕ → Option Giving
waiting input None = None
waiting input (Some device) = Some (Waiting device input)

-- modifiers of the keyboard of that device
abbrev pub modifying : List Said → ℕ → ℕ → ℕ → ℕ → ℕ → Option ℕ → Option Giving
modifying before serial depressed locked latched group None = None
modifying before serial depressed locked latched group (Some device) =
    Some (Other device (KeyboardModifiers (device_of before device) serial depressed latched locked group))

-- what is said gives, where it isn't refused
abbrev pub giving : List Said → Said → Option Giving
giving before (Disconnects last_serial why explanation) = Some (Free (Disconnected last_serial why explanation))
giving before (SeatDone seat) = Some (Free (SeatAdded seat))
giving before (SeatGoes seat serial) = if seat_added before seat then Some (Free (SeatRemoved seat)) else None
giving before (DeviceDone device) = Some (Other device (DeviceAdded (device_of before device)))
giving before (DeviceTells device serial told) = Some (telling (device_of before device) serial told)
giving before (DeviceGoes device serial) = if device_added before device then Some (Other device (DeviceRemoved (device_of before device))) else None
giving before (Inputs id input) = waiting input (holder before id)
giving before (Modifies id serial depressed locked latched group) = modifying before serial depressed locked latched group (holder before id)
giving before m = None

-- what is given at a position
unfoldable pub item : List Said → Said → Option Giving
item before m = elim (refusal before m) [ Some e ↦ None | None ↦ giving before m ]

-- ---- the serial

-- the serial that is kept, also of most that is refused
abbrev pub keeps : List Said → Said → Option ℕ
keeps before (SeatGoes seat serial) = Some serial
keeps before (DeviceTells device serial told) = Some serial
keeps before (DeviceGoes device serial) = Some serial
keeps before (Modifies id serial depressed locked latched group) = Some serial
keeps before (Goes interface id serial) = if goes_freely interface || is_some (holder before id) then Some serial else None
keeps before m = None

-- the serial that was kept last, or that of the handshake
unfoldable pub serial : ℕ → List Said → ℕ
serial start before = unwrap_or (last_said keeps before) start

-- ---- the whole

-- what is given at a position, with the serial there, its own included
unfoldable pub slot : ℕ → List Said → Said → Slot InputEvent Plain
slot start before m = record { item = item before m; serial = serial start (m ∷ before) }

-- what is given at each position
abbrev pub slots : ℕ → List Said → List (Slot InputEvent Plain)
slots start before = each (slot start) before

-- what a position gives to the user: what the groups of inputs give there, each device with its seat
unfoldable pub tells : ℕ → List ℕ → List Said → Said → List Report
tells start readings before m = map (seen (device_of before)) (gives readings (slots start before) (slot start before m))

-- The events for the user, the oldest first: what events give after a handshake of this serial, with these readings of
-- the clock.
unfoldable pub reported : ℕ → List ℕ → List Event → List Report
reported start readings events = joined (tells start readings) (map said events)
