-- What the converter does with an event.
use Rattle.std.specs.Prelude.{◌≡◌, ℕ, Bool, true, false, List, [], ◌∷◌, Option, Some, None, if◌then◌else◌, Result, Ok, Err}
use Rattle.std.specs.FinMap as finite
use Rattle.ei_spec.specs.Interface.{ObjectView}
use Rattle.ei_types.specs.Capability.{capability_named}
use Rattle.ei_types.specs.declared.enums.DisconnectReason.{DisconnectReason}
use Rattle.ei_types.specs.declared.error.EventError.{EventError}
use Rattle.ei_types.specs.declared.error.Error.{Error}
use Rattle.ei_types.specs.declared.error.Error.TheVariants as error
use Rattle.ei_input.specs.declared.input_event.InputEvent.{InputEvent}
use Rattle.ei_backend.specs.Outside.{ReadsClock}
use Rattle.ei_client.specs.declared.event.Event.{Event as Typed}
use Rattle.ei_client.specs.declared.event.Event.TheVariants as event
use Rattle.ei_client.specs.declared.connection.Event.{Event as Connection}
use Rattle.ei_client.specs.declared.connection.Event.TheVariants as connection
use Rattle.ei_client.specs.declared.seat.Event.{Event as Seat}
use Rattle.ei_client.specs.declared.seat.Event.TheVariants as seat
use Rattle.ei_client.specs.declared.device.Event.{Event as Device}
use Rattle.ei_client.specs.declared.device.Event.TheVariants as device
use Rattle.ei_client.specs.declared.keyboard.Event.{Event as Keyboard}
use Rattle.ei_client.specs.declared.keyboard.Event.TheVariants as keyboard
use Rattle.ei_reported.specs.Said.{Told, Resumed, Paused, StartEmulating, StopEmulating}
use Rattle.ei_reported.specs.Said.{Said, Inputs, Modifies, Goes}
use Rattle.ei_reported.specs.Reported.{goes_freely}
use Rattle.ei_following.specs.Core.{refused, closed_group}
use Rattle.ei_event.specs.declared.event.Disconnected.{Disconnected}
use Rattle.ei_event.specs.declared.event.EiEvent.TheVariants as told
use Rattle.ei_event.specs.declared.ending.Ending.{Ending}
use Rattle.ei_event.specs.declared.ending.Ending.TheVariants as ending
use Rattle.ei_event.specs.Typed.{said_of, keyboard_says}
use Rattle.ei_event.specs.Kept.{DeviceView, KeptView, with_seat, queues, new_seat, named_seat, pending_seat, added_seat, pending_device, added_device}
use Rattle.ei_event.specs.Kept.{named, typed, sized, mapped, with_region, keyed_by, owner}
use Rattle.ei_event.specs.Core.{core_of}
use Rattle.ei_event.specs.Handling.{describes_seat, masks_seat, completes_seat, loses_seat, gains_device, describes, describes_owner, gains_interface}
use Rattle.ei_event.specs.Handling.{completes, keeps_serial, frames, ends, ends_at, loses_device, hears_at}

-- ---- what becomes of what is kept, taken or refused; where a frame is made, it has this time

-- the end of the connection, as it is told
abbrev pub disconnected : ℕ → DisconnectReason → Option (List ℕ) → Disconnected
disconnected last_serial reason explanation = record { last_serial = last_serial; reason = reason; explanation = explanation }

abbrev pub after_connection : KeptView → Connection → KeptView
after_connection c (connection.Disconnected last_serial reason explanation) = queues c (told.Disconnected (disconnected last_serial reason explanation) ∷ [])
after_connection c (connection.Seat new) = with_seat c new.id new_seat
after_connection c m = c

abbrev pub after_seat : KeptView → ObjectView → Seat → KeptView
after_seat c target (seat.Destroyed serial) = loses_seat c target serial
after_seat c target (seat.Name name) = describes_seat c target.id (named_seat name) (pending_seat (finite.get c.seats target.id))
after_seat c target (seat.Capability mask interface) = masks_seat c target.id mask (capability_named interface)
after_seat c target seat.Done = completes_seat c target (pending_seat (finite.get c.seats target.id))
after_seat c target (seat.Device new) = gains_device c (record { seat = target; proxy = new }) (added_seat (finite.get c.seats target.id))

-- of an event to the device of that id
abbrev pub after_device : KeptView → ℕ → Device → ℕ → KeptView
after_device c id (device.Destroyed serial) time = loses_device c id serial time
after_device c id (device.Name name) time = describes c id (named name) (pending_device (finite.get c.devices id))
after_device c id (device.DeviceType kind) time = describes c id (typed kind) (pending_device (finite.get c.devices id))
after_device c id (device.Dimensions width height) time = describes c id (sized width height) (pending_device (finite.get c.devices id))
after_device c id (device.Region x y width height scale) time =
    describes c id (with_region (record { x = x; y = y; width = width; height = height; scale = scale; mapping_id = None })) (pending_device (finite.get c.devices id))
after_device c id (device.Interface new) time = gains_interface c id new (pending_device (finite.get c.devices id))
after_device c id device.Done time = completes c id (pending_device (finite.get c.devices id))
after_device c id (device.Resumed serial) time = ends c id serial time ending.Resumed (added_device (finite.get c.devices id))
after_device c id (device.Paused serial) time = ends c id serial time ending.Paused (added_device (finite.get c.devices id))
after_device c id (device.StartEmulating serial sequence) time = ends c id serial time (ending.StartEmulating sequence) (added_device (finite.get c.devices id))
after_device c id (device.StopEmulating serial) time = ends c id serial time ending.StopEmulating (added_device (finite.get c.devices id))
after_device c id (device.Frame serial sent) time = frames c id serial sent (added_device (finite.get c.devices id))
after_device c id (device.RegionMappingId mapping_id) time = describes c id (mapped mapping_id) (pending_device (finite.get c.devices id))

-- the added device that has the interface
abbrev pub holder_at : KeptView → Option ℕ → Option DeviceView
holder_at c None = None
holder_at c (Some id) = added_device (finite.get c.devices id)

-- an interface leaves the added device that has it; where none has it, the serial is kept if it goes freely
abbrev pub loses_interface : KeptView → Bool → ℕ → ℕ → Option DeviceView → KeptView
loses_interface c freely id serial None = if freely then keeps_serial c serial else c
loses_interface c freely id serial (Some d) = record c { interfaces = finite.remove c.interfaces id; serial = serial }

-- of an event to the interface of that id, but for a keymap
abbrev pub after_said : KeptView → Said → ℕ → KeptView
after_said c (Inputs id i) time = hears_at c i (owner c id)
after_said c (Modifies id serial depressed locked latched group) time = ends_at c serial time (ending.Modifiers depressed locked latched group) (owner c id)
after_said c (Goes interface id serial) time = loses_interface c (goes_freely interface) id serial (holder_at c (owner c id))
after_said c m time = c

-- whether an event describes a device
abbrev pub describes_device : Device → Bool
describes_device (device.Destroyed serial) = false
describes_device (device.Resumed serial) = false
describes_device (device.Paused serial) = false
describes_device (device.StartEmulating serial sequence) = false
describes_device (device.StopEmulating serial) = false
describes_device (device.Frame serial sent) = false
describes_device m = true

-- of an event to the keyboard of that id
abbrev pub after_keyboard : KeptView → ℕ → Keyboard → ℕ → KeptView
after_keyboard c id (keyboard.Keymap kind size map) time = describes_owner c (keyed_by (record { handle = map; size = size; type_ = kind })) (owner c id)
after_keyboard c id m time = after_said c (keyboard_says id m) time

abbrev pub after : KeptView → Typed → ℕ → KeptView
after c (event.Connection target m) time = after_connection c m
after c (event.Seat target m) time = after_seat c target m
after c (event.Device target m) time = after_device c target.id m time
after c (event.Keyboard target m) time = after_keyboard c target.id m time
after c e time = after_said c (said_of e) time

-- ---- how a call ends

-- Taken where there is no reason to refuse, and refused for the reason where there is one: it leaves the same. Want of memory, which
-- comes only where there is none, leaves all as before.
abbrev pub Ends : Option EventError → KeptView → KeptView → Result Unit Error → KeptView → Type 0
Ends reason old left (Ok x) new = (reason ≡ None) × (new ≡ left)
Ends reason old left (Err (error.Event why)) new = (reason ≡ Some why) × (new ≡ left)
Ends reason old left (Err error.NoMemory) new = (reason ≡ None) × (new ≡ old)
Ends reason old left (Err e) new = ⊥

-- the time is the clock's next reading, where inputs are to have a made frame; else the clock isn't read
abbrev pub Times : List InputEvent → ℕ → Option (List ℕ) → Option (List ℕ) → Type 0
Times [] time before now = now ≡ before
Times (i ∷ is) time before now = (readings : List ℕ) → before ≡ Some readings → ReadsClock readings now time

-- so where the event is taken; where the call is refused the clock isn't read
abbrev pub Asks : List InputEvent → ℕ → Option (List ℕ) → Option (List ℕ) → Result Unit Error → Type 0
Asks inputs time before now (Ok x) = Times inputs time before now
Asks inputs time before now (Err e) = now ≡ before

-- what waits on a device, if there is one
abbrev pub waiting_on : Option DeviceView → List InputEvent
waiting_on None = []
waiting_on (Some d) = d.waiting

-- what a device tells that ends a group
abbrev pub tells : Ending → Option Told
tells ending.Resumed = Some Resumed
tells ending.Paused = Some Paused
tells (ending.StartEmulating sequence) = Some (StartEmulating sequence)
tells ending.StopEmulating = Some StopEmulating
tells e = None

-- What is done with an event that says this, and leaves that at the time of a made frame: `before` and `now` are what the clock tells
pub record Does (old : KeptView) (said : Said) (left : ℕ → KeptView) (before now : Option (List ℕ)) (result : Result Unit Error) (new : KeptView) : Type 0 where
  pub time : ℕ
  pub ends : Ends (refused (core_of old) said) old (left time) result new
  pub clock : Asks (closed_group (core_of old) said) time before now result

abbrev pub Handles : KeptView → Typed → Option (List ℕ) → Option (List ℕ) → Result Unit Error → KeptView → Type 0
Handles old e before now result new = Does old (said_of e) (after old e) before now result new
