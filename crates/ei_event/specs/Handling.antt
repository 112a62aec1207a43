-- What the converter does with an event.
use Rattle.std.specs.Prelude.{ℕ, List, [], ◌∷◌, ◌++◌, map, Option, Some, None}
use Rattle.std.specs.FinMap as finite
use Rattle.ei_spec.specs.Interface.{ObjectView, bytes_of}
use Rattle.ei_types.specs.declared.capability.DeviceCapability.{DeviceCapability}
use Rattle.ei_types.specs.declared.enums.DeviceType.{DeviceType}
use Rattle.ei_input.specs.declared.input_event.InputEvent.{InputEvent}
use Rattle.ei_by_id.specs.ById.{kept}
use Rattle.ei_event.specs.Keys.{DeviceKey}
use Rattle.ei_event.specs.declared.event.EiEvent.{EiEvent}
use Rattle.ei_event.specs.declared.event.EiEvent.TheVariants as told
use Rattle.ei_event.specs.declared.ending.Ending.{Ending}
use Rattle.ei_event.specs.declared.ending.Ending.TheVariants as ending
use Rattle.ei_event.specs.Event.{timed}
use Rattle.ei_event.specs.Kept.{SeatView, DeviceView, KeptView, with_seat, with_device, queues, drops, is_other}
use Rattle.ei_event.specs.Kept.{masked_seat, whole_seat, pending_seat, added_seat, new_device, whole, with_input, emptied}
use Rattle.ei_event.specs.Kept.{pending_device, added_device}

-- ---- seats

-- a seat that is pending is described further
abbrev pub describes_seat : KeptView → ℕ → (SeatView → SeatView) → Option SeatView → KeptView
describes_seat c id change None = c
describes_seat c id change (Some s) = with_seat c id (change s)

-- the change by a mask of a capability; none where no capability has the name
abbrev pub masking : Option DeviceCapability → ℕ → SeatView → SeatView
masking None mask s = s
masking (Some capability) mask s = masked_seat capability mask s

abbrev pub masks_seat : KeptView → ℕ → ℕ → Option DeviceCapability → KeptView
masks_seat c id mask None = c
masks_seat c id mask (Some capability) = describes_seat c id (masked_seat capability mask) (pending_seat (finite.get c.seats id))

-- a seat that is pending is described whole, and told
abbrev pub completes_seat : KeptView → ObjectView → Option SeatView → KeptView
completes_seat c seat None = c
completes_seat c seat (Some s) = queues (with_seat c seat.id (whole_seat s)) (told.SeatAdded (record { seat = seat }) ∷ [])

-- that a seat is gone is told, where it was added
abbrev pub seat_goodbye : ObjectView → Option SeatView → List EiEvent
seat_goodbye seat None = []
seat_goodbye seat (Some s) = told.SeatRemoved (record { seat = seat }) ∷ []

abbrev pub loses_seat : KeptView → ObjectView → ℕ → KeptView
loses_seat c seat serial = record c {
  seats = finite.remove c.seats seat.id;
  serial = serial;
  queue = c.queue ++ seat_goodbye seat (added_seat (finite.get c.seats seat.id));
}

-- ---- devices

-- a device comes, where its seat is added
abbrev pub gains_device : KeptView → DeviceKey → Option SeatView → KeptView
gains_device c key None = c
gains_device c key (Some s) = with_device c key.proxy.id (new_device key)

-- a device that is pending is described further
abbrev pub describes : KeptView → ℕ → (DeviceView → DeviceView) → Option DeviceView → KeptView
describes c id change None = c
describes c id change (Some d) = with_device c id (change d)

-- the same of the device that has an interface
abbrev pub describes_owner : KeptView → (DeviceView → DeviceView) → Option ℕ → KeptView
describes_owner c change None = c
describes_owner c change (Some id) = describes c id change (pending_device (finite.get c.devices id))

-- a device that is pending has an interface, in place of the one that it had by its name
abbrev pub gains_interface : KeptView → ℕ → ObjectView → Option DeviceView → KeptView
gains_interface c id object None = c
gains_interface c id object (Some d) = record c {
  interfaces = finite.insert (kept (is_other id (bytes_of object.interface)) c.interfaces) object.id (record { device = id; object = object });
}

-- a device that is pending is described whole, and told; without a type it is dropped
abbrev pub whole_or_dropped : KeptView → ℕ → DeviceView → Option DeviceType → KeptView
whole_or_dropped c id d None = drops c id
whole_or_dropped c id d (Some kind) = queues (with_device c id (whole d)) (told.DeviceAdded (record { device = d.device }) ∷ [])

abbrev pub completes : KeptView → ℕ → Option DeviceView → KeptView
completes c id None = c
completes c id (Some d) = whole_or_dropped c id d d.kind

-- ---- what is handed out

-- the events that a group becomes: each input with the time, and the frame behind them; none where nothing waits
abbrev pub group_events : DeviceKey → List InputEvent → ℕ → ℕ → List EiEvent
group_events device [] serial time = []
group_events device (i ∷ is) serial time = map (timed device time) (i ∷ is) ++ told.Frame (record { device = device; serial = serial; time = time }) ∷ []

-- the serial is kept
abbrev pub keeps_serial : KeptView → ℕ → KeptView
keeps_serial c serial = record c { serial = serial }

-- what waits on the device is handed out with a frame
abbrev pub hands_out : KeptView → ℕ → DeviceView → ℕ → ℕ → KeptView
hands_out c id d serial time = record c {
  devices = finite.insert c.devices id (emptied d);
  serial = serial;
  queue = c.queue ++ group_events d.device d.waiting serial time;
}

-- a frame of a device that is added
abbrev pub frames : KeptView → ℕ → ℕ → ℕ → Option DeviceView → KeptView
frames c id serial time None = keeps_serial c serial
frames c id serial time (Some d) = hands_out c id d serial time

-- the event that ends a group
abbrev pub ended : Ending → ℕ → DeviceKey → EiEvent
ended ending.Resumed serial device = told.DeviceResumed (record { device = device; serial = serial })
ended ending.Paused serial device = told.DevicePaused (record { device = device; serial = serial })
ended (ending.StartEmulating sequence) serial device = told.DeviceStartEmulating (record { device = device; serial = serial; sequence = sequence })
ended ending.StopEmulating serial device = told.DeviceStopEmulating (record { device = device; serial = serial })
ended (ending.Modifiers depressed locked latched group) serial device = told.KeyboardModifiers (record {
  device = device;
  serial = serial;
  depressed = depressed;
  latched = latched;
  locked = locked;
  group = group;
})
ended ending.Destroyed serial device = told.DeviceRemoved (record { device = device })

-- what waits on a device that is added is handed out with a made frame, and then the event
abbrev pub ends : KeptView → ℕ → ℕ → ℕ → Ending → Option DeviceView → KeptView
ends c id serial time e None = keeps_serial c serial
ends c id serial time e (Some d) = queues (hands_out c id d serial time) (ended e serial d.device ∷ [])

-- a device is gone
abbrev pub loses_device : KeptView → ℕ → ℕ → ℕ → KeptView
loses_device c id serial time = drops (ends c id serial time ending.Destroyed (added_device (finite.get c.devices id))) id

-- ---- an interface of a device

-- an input waits on the device that has the interface, where it is added
abbrev pub hears : KeptView → ℕ → InputEvent → Option DeviceView → KeptView
hears c id i None = c
hears c id i (Some d) = with_device c id (with_input i d)

abbrev pub hears_at : KeptView → InputEvent → Option ℕ → KeptView
hears_at c i None = c
hears_at c i (Some id) = hears c id i (added_device (finite.get c.devices id))

-- the modifiers of the device that has the keyboard
abbrev pub ends_at : KeptView → ℕ → ℕ → Ending → Option ℕ → KeptView
ends_at c serial time e None = keeps_serial c serial
ends_at c serial time e (Some id) = ends c id serial time e (added_device (finite.get c.devices id))
