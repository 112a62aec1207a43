-- The requests that are handed out, each group of inputs with its frame.
use Rattle.std.specs.Prelude.{ℕ, Bool, true, List, [], ◌∷◌, Option, Some, None, if◌then◌else◌, codes}
use Rattle.ei_spec.specs.declared.interface.KnownInterface.{KnownInterface}
use Rattle.ei_spec.specs.declared.interface.KnownInterface.TheVariants as known
use Rattle.ei_spec.specs.Value.{Value, Word, Long}
use Rattle.ei_spec.specs.Message.{Raw}
use Rattle.ei_spec.specs.History.{each}
use Rattle.ei_spec.specs.Groups.{Item, Input as Waiting, Frame, Other, Free, Given, Slot, grouped}
use Rattle.ei_session.specs.Setup.{Setup}
use Rattle.ei_session.specs.Asked.{asked, first, none, one, two, long}
use Rattle.ei_input.specs.declared.input_event.InputEvent.{InputEvent}
use Rattle.ei_session.specs.Inputs.{DeviceInput}
use Rattle.ei_input.specs.declared.input_event.InputEvent.TheVariants as input_event
use Rattle.ei_session.specs.Objects.{Entry, object}
use Rattle.ei_session.specs.Serial.{serial}
use Rattle.ei_session.specs.Touches.{input, is_down}

-- a request that is no input and no frame
pub data Plain : Type 0 where
  Bind : (seat capabilities : ℕ) → Plain
  RequestDevice : (seat capabilities : ℕ) → Plain
  Ready : (device : ℕ) → Plain
  DeviceClosed : (device : ℕ) → Plain
  DeviceStartEmulating : (device last_serial sequence : ℕ) → Plain
  DeviceStopEmulating : (device last_serial : ℕ) → Plain
  Disconnect : Plain

-- a request as it is handed out: an input with its time, a frame, or another
abbrev pub Request : Type 0
Request = Given ℕ InputEvent Plain

abbrev pub Asking : Type 0
Asking = Item InputEvent Plain

-- ---- what a message gives

-- the frame of a device, by its serial and its time
abbrev pub frame_of : ℕ → Option (List Value) → Option Asking
frame_of device (Some (Word serial ∷ Long time ∷ [])) = Some (Frame device serial time)
frame_of device values = None

-- a request to a device
abbrev pub device_item : ℕ → Raw → Option Asking
device_item device m = first
    (none (Other device (DeviceClosed device)) (asked known.Device (codes "release") m)
    ∷ two (λ serial sequence. Other device (DeviceStartEmulating device serial sequence)) (asked known.Device (codes "start_emulating") m)
    ∷ one (λ serial. Other device (DeviceStopEmulating device serial)) (asked known.Device (codes "stop_emulating") m)
    ∷ frame_of device (asked known.Device (codes "frame") m)
    ∷ none (Other device (Ready device)) (asked known.Device (codes "ready") m)
    ∷ [])

-- a request to a seat
abbrev pub seat_item : ℕ → Raw → Option Asking
seat_item seat m = first
    (long (λ mask. Free (Bind seat mask)) (asked known.Seat (codes "bind") m)
    ∷ long (λ mask. Free (RequestDevice seat mask)) (asked known.Seat (codes "request_device") m)
    ∷ [])

-- whether an input is heard: one that moves or ends a touch is where the touch is down
abbrev pub is_heard : List Raw → ℕ → InputEvent → Bool
is_heard before device (input_event.TouchMotion touch x y) = is_down before device touch
is_heard before device (input_event.TouchUp touch) = is_down before device touch
is_heard before device (input_event.TouchCancel touch) = is_down before device touch
is_heard before device input = true

abbrev pub input_item : List Raw → Option DeviceInput → Option Asking
input_item before None = None
input_item before (Some i) = if is_heard before i.device i.input then Some (Waiting i.device i.input) else None

-- what a message to such an object gives
abbrev pub item_to : List Raw → Raw → KnownInterface → Option ℕ → Option Asking
item_to before m known.Connection device = none (Free Disconnect) (asked known.Connection (codes "disconnect") m)
item_to before m known.Seat device = seat_item m.id m
item_to before m known.Device (Some device) = device_item device m
item_to before m interface device = input_item before (input before m)

abbrev pub item_at : List Raw → Raw → Option Entry → Option Asking
item_at before m None = None
item_at before m (Some e) = item_to before m e.interface e.device

-- what a message gives
unfoldable pub item : List Raw → Raw → Option Asking
item before m = item_at before m (object before m.id)

-- with the serial before it
unfoldable pub slot : Setup → List Raw → Raw → Slot InputEvent Plain
slot setup before m = record { item = item before m; serial = serial setup before }

-- the requests of the messages, the oldest first, with these readings of the clock
unfoldable pub framed : Setup → List ℕ → List Raw → List Request
framed setup readings raws = grouped readings (each (slot setup) raws)
