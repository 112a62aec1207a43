-- What a client is told of a script of steps that a server carries out, one by one.
use Rattle.std.specs.Prelude.{ℕ, ◌+◌, ◌%◌, ◌^◌, Bool, true, false, not, ◌&&◌, List, [], ◌∷◌, ◌++◌, length, map, reverse, Option, Some, None, is_some}
use Rattle.std.specs.Prelude.{◌==◌, nat_eq, nat_le, if◌then◌else◌}
use Rattle.std.specs.List.{list_any, flat_map}
use Rattle.ei_spec.specs.declared.interface.KnownInterface.{KnownInterface}
use Rattle.ei_spec.specs.Interface.{about}
use Rattle.ei_spec.specs.Value.{Kind, Choice, Value, Word, written}
use Rattle.ei_spec.specs.Rows.{Row, row_at}
use Rattle.ei_spec.specs.Table.{table}
use Rattle.ei_spec.specs.History.{last_said, occurs, total}
use Rattle.ei_spec.specs.Groups.{Input as Waiting, Frame as Framing, Other, Plain as Told, seen, Slot, grouped}
use Rattle.ei_types.specs.Capability.{has_bit}
use Rattle.ei_input.specs.declared.input_event.InputEvent.{InputEvent}
use Rattle.ei_input.specs.Inputs.{input_by}
use Rattle.ei_session.specs.Setup.{seat_id}
use Rattle.ei_session.specs.Devices.{interfaces_of}
use Rattle.ei_reported.specs.Event.{Event, called}
use Rattle.ei_reported.specs.Reported.{Device, Report, Plain, Giving, SeatAdded, DeviceAdded, DeviceRemoved, DevicePaused, DeviceResumed}
use Rattle.ei_reported.specs.Reported.{DeviceStartEmulating, DeviceStopEmulating}
use Rattle.ei_spec.specs.declared.limits.TheConstants.{MOST_MESSAGE_BYTES}

-- A step. Devices are numbered as they are added. A history of steps has the newest first.
pub data Step : Type 0 where
  Add : (mask : ℕ) → Step
  Remove : (device : ℕ) → Step
  Start : (device sequence : ℕ) → Step
  Stop : (device : ℕ) → Step
  Pause : (device : ℕ) → Step
  Resume : (device : ℕ) → Step
  Frame : (device time : ℕ) → Step
  Inputs : (device : ℕ) → (interface : KnownInterface) → (opcode : ℕ) → (values : List Value) → Step

-- ---- devices

-- 1 where a device is added
abbrev pub adds : Step → ℕ
adds (Add mask) = 1
adds step = 0

-- how many devices were added
unfoldable pub count : List Step → ℕ
count before = total (λ b s. adds s) before

abbrev pub bits_of : ℕ → ℕ
bits_of mask = length (interfaces_of mask)

abbrev pub takes_ids : Step → ℕ
takes_ids (Add mask) = 1 + bits_of mask
takes_ids step = 0

-- the id of the device that is added next
unfoldable pub next_device : List Step → ℕ
next_device before = seat_id + 1 + total (λ b s. takes_ids s) before

-- a device: its id and its mask
abbrev pub added_here : ℕ → List Step → Step → Option (ℕ × ℕ)
added_here number before (Add mask) = if count before == number then Some (next_device before, mask) else None
added_here number before step = None

-- the device of that number, where it was added
unfoldable pub added : List Step → ℕ → Option (ℕ × ℕ)
added before number = last_said (added_here number) before

abbrev pub removes : ℕ → Step → Bool
removes number (Remove device) = device == number
removes number step = false

-- whether it was added, and not removed
unfoldable pub is_held : List Step → ℕ → Bool
is_held before number = is_some (added before number) && not (occurs (λ b s. removes number s) before)

abbrev pub mask_in : Option (ℕ × ℕ) → ℕ
mask_in None = 0
mask_in (Some d) = d.1

abbrev pub id_in : Option (ℕ × ℕ) → ℕ
id_in None = 0
id_in (Some d) = d.0

-- ---- serials

-- how many events with a serial a step sends
unfoldable pub steps_on : List Step → Step → ℕ
steps_on before (Add mask) = 1
steps_on before (Remove device) = 1 + bits_of (mask_in (added before device))
steps_on before (Start device sequence) = 1
steps_on before (Stop device) = 1
steps_on before (Pause device) = 1
steps_on before (Resume device) = 1
steps_on before (Frame device time) = 1
steps_on before (Inputs device interface opcode values) = 0

-- the last serial behind these steps
unfoldable pub serial : ℕ → List Step → ℕ
serial start before = (start + total steps_on before) % 2 ^ 32

-- ---- inputs

abbrev pub fits : Kind → Value → Bool
fits (Choice name values) (Word n) = list_any (nat_eq n) values
fits kind value = true

abbrev pub all_fit : List Kind → List Value → Bool
all_fit [] [] = true
all_fit (k ∷ ks) (v ∷ vs) = fits k v && all_fit ks vs
all_fit ks vs = false

abbrev pub row_fits : Option Row → List Value → Bool
row_fits None values = false
row_fits (Some row) values = all_fit row.kinds values

abbrev pub event_of : KnownInterface → ℕ → List Value → Event
event_of interface opcode values = record { target = 0; interface = interface; opcode = opcode; values = values }

-- the input that an event of these values is
unfoldable pub input_of : KnownInterface → ℕ → List Value → Option InputEvent
input_of interface opcode values = input_by interface (called (event_of interface opcode values))

-- ---- what is bad

-- whether a device of the mask has the interface
abbrev pub has_by : ℕ → Option ℕ → Bool
has_by mask None = false
has_by mask (Some bit) = has_bit mask bit

-- whether a device of the mask can send it
abbrev pub can_send : ℕ → KnownInterface → ℕ → List Value → Bool
can_send mask interface opcode values =
    has_by mask (about interface).bit && (not (opcode == 0) && (is_some (input_of interface opcode values)
    && (row_fits (row_at opcode (table true interface)) values && nat_le (16 + length (flat_map written values)) MOST_MESSAGE_BYTES)))

-- whether a step can't be carried out behind those
unfoldable pub is_bad : List Step → Step → Bool
is_bad before (Add mask) = false
is_bad before (Remove device) = not (is_held before device)
is_bad before (Start device sequence) = not (is_held before device)
is_bad before (Stop device) = not (is_held before device)
is_bad before (Pause device) = not (is_held before device)
is_bad before (Resume device) = not (is_held before device)
is_bad before (Frame device time) = not (is_held before device)
is_bad before (Inputs device interface opcode values) = not (is_held before device && can_send (mask_in (added before device)) interface opcode values)

-- the place of the first that can't, of steps with the oldest first
unfoldable pub bad_from : List Step → List Step → Option ℕ
bad_from before [] = None
bad_from before (step ∷ later) = if is_bad before step then Some (length before) else bad_from (step ∷ before) later

-- ---- what the client is told

abbrev pub device_by : ℕ → Device
device_by id = record { seat = seat_id; id = id }

abbrev pub waiting : ℕ → Option InputEvent → Option Giving
waiting id None = None
waiting id (Some input) = Some (Waiting id input)

-- what a step gives, where its device has the id and the serial behind it is this
abbrev pub gives_of : ℕ → ℕ → Step → List (Option Giving)
gives_of id serial (Add mask) = Some (Other id (DeviceAdded (device_by id))) ∷ Some (Other id (DeviceResumed (device_by id) serial)) ∷ []
gives_of id serial (Remove device) = Some (Other id (DeviceRemoved (device_by id))) ∷ []
gives_of id serial (Start device sequence) = Some (Other id (DeviceStartEmulating (device_by id) serial sequence)) ∷ []
gives_of id serial (Stop device) = Some (Other id (DeviceStopEmulating (device_by id) serial)) ∷ []
gives_of id serial (Pause device) = Some (Other id (DevicePaused (device_by id) serial)) ∷ []
gives_of id serial (Resume device) = Some (Other id (DeviceResumed (device_by id) serial)) ∷ []
gives_of id serial (Frame device time) = Some (Framing id serial time) ∷ []
gives_of id serial (Inputs device interface opcode values) = waiting id (input_of interface opcode values) ∷ []

-- the id of the device that a step names
abbrev pub id_of : List Step → Step → ℕ
id_of before (Add mask) = next_device before
id_of before (Remove device) = id_in (added before device)
id_of before (Start device sequence) = id_in (added before device)
id_of before (Stop device) = id_in (added before device)
id_of before (Pause device) = id_in (added before device)
id_of before (Resume device) = id_in (added before device)
id_of before (Frame device time) = id_in (added before device)
id_of before (Inputs device interface opcode values) = id_in (added before device)

abbrev pub slot_with : ℕ → Option Giving → Slot InputEvent Plain
slot_with serial item = record { item = item; serial = serial }

-- the slots of a step, the oldest first
unfoldable pub slots_at : ℕ → List Step → Step → List (Slot InputEvent Plain)
slots_at start before step = map (slot_with (serial start (step ∷ before))) (gives_of (id_of before step) (serial start (step ∷ before)) step)

-- all slots, the newest first
unfoldable pub slots : ℕ → List Step → List (Slot InputEvent Plain)
slots start [] = []
slots start (step ∷ before) = reverse (slots_at start before step) ++ slots start before

-- The events that the client reports of these steps, behind a handshake of this serial, with these readings of its clock.
unfoldable pub emitted : ℕ → List ℕ → List Step → List Report
emitted start readings before = Told (SeatAdded seat_id) ∷ map (seen device_by) (grouped readings (slots start before))
