-- The events that a server answers messages by.
use Rattle.std.specs.Prelude.{◌≡◌, ◌⊎◌, ℕ, ◌+◌, ◌%◌, ◌^◌, true, List, [], ◌∷◌, ◌++◌, Option, Some, None, is_some, codes, if◌then◌else◌}
use Rattle.ei_spec.specs.declared.interface.KnownInterface.{KnownInterface}
use Rattle.ei_spec.specs.declared.interface.KnownInterface.TheVariants as known
use Rattle.ei_spec.specs.Interface.{name_of}
use Rattle.ei_spec.specs.Value.{Word, Long, Letters}
use Rattle.ei_spec.specs.Message.{Raw}
use Rattle.ei_spec.specs.History.{joined}
use Rattle.ei_session.specs.Setup.{Setup, connection_id, seat_id}
use Rattle.ei_session.specs.Arguments.{event}
use Rattle.ei_session.specs.Handshake.{connected, is_the_finish, version}
use Rattle.ei_session.specs.Replies.{connection_event, seat_event, finish_events, greeting}
use Rattle.ei_session.specs.Devices.{interfaces_of, made, next_id, exhausts}
use Rattle.ei_session.specs.Objects.{Entry, object, gone}
use Rattle.ei_session.specs.Serial.{serial}
use Rattle.ei_session.specs.Refusals.{synced}

-- ---- single events

-- the target of a message isn't there
abbrev pub invalid_object_event : ℕ → ℕ → Raw
invalid_object_event serial id = event known.Connection (codes "invalid_object") connection_id (Word serial ∷ Long id ∷ [])

-- a callback is called
abbrev pub callback_event : ℕ → Raw
callback_event callback = event known.Callback (codes "done") callback (Long 0 ∷ [])

-- a new device
abbrev pub device_event : ℕ → ℕ → Raw
device_event device v = event known.Seat (codes "device") seat_id (Long device ∷ Word v ∷ [])

-- the device is a virtual one
abbrev pub device_type_event : ℕ → Raw
device_type_event device = event known.Device (codes "device_type") device (Word 1 ∷ [])

-- an interface of a device
abbrev pub interface_event : ℕ → ℕ → KnownInterface → ℕ → Raw
interface_event device id interface v = event known.Device (codes "interface") device (Long id ∷ Letters (name_of interface) ∷ Word v ∷ [])

-- the end of a device's description
abbrev pub device_done_event : ℕ → Raw
device_done_event device = event known.Device (codes "done") device []

-- the device may be used from now on
abbrev pub resumed_event : ℕ → ℕ → Raw
resumed_event device serial = event known.Device (codes "resumed") device (Word serial ∷ [])

-- an object goes; seats, devices and their interfaces have the same row for it
abbrev pub destroyed_event : ℕ → ℕ → Raw
destroyed_event id serial = event known.Device (codes "destroyed") id (Word serial ∷ [])

-- ---- what answers a message

-- an event for each interface, with rising ids
abbrev pub interface_events : (KnownInterface → ℕ) → ℕ → ℕ → List KnownInterface → List Raw
interface_events versions device id [] = []
interface_events versions device id (i ∷ is) = interface_event device id i (versions i) ∷ interface_events versions device (id + 1) is

-- the events that describe a new device of these interfaces
unfoldable pub device_events : (KnownInterface → ℕ) → ℕ → List KnownInterface → ℕ → List Raw
device_events versions device interfaces serial =
    device_event device (versions known.Device)
    ∷ (device_type_event device
    ∷ (interface_events versions device (device + 1) interfaces
    ++ (device_done_event device ∷ (resumed_event device serial ∷ []))))

-- an event for each id that goes, with the serials that follow
abbrev pub destroyed_events : ℕ → List ℕ → List Raw
destroyed_events serial [] = []
destroyed_events serial (id ∷ ids) = destroyed_event id ((serial + 1) % 2 ^ 32) ∷ destroyed_events ((serial + 1) % 2 ^ 32) ids

abbrev pub callback_events : Option ℕ → List Raw
callback_events None = []
callback_events (Some callback) = callback_event callback ∷ []

-- what answers a message that is no finish, by the device that it makes and by what its target is
abbrev pub reply_by : Setup → List Raw → Raw → Option ℕ → Option Entry → List Raw
reply_by setup before m (Some mask) target =
    if exhausts before m then [] else device_events (version before) (next_id before) (interfaces_of mask) (serial setup (m ∷ before))
reply_by setup before m None None = if connected before then invalid_object_event (serial setup before) m.id ∷ [] else []
reply_by setup before m None (Some e) = callback_events (synced before m) ++ destroyed_events (serial setup before) (gone before m)

-- the events that answer a message
unfoldable pub reply : Setup → List Raw → Raw → List Raw
reply setup before m = if is_the_finish before m then finish_events setup before else reply_by setup before m (made before m) (object before m.id)

-- all events, the oldest first
unfoldable pub replies : Setup → List Raw → List Raw
replies setup raws = greeting ∷ joined (reply setup) raws

-- ---- where events go

-- the id is that of a callback which is called, or of an object that is there before the message or after it
abbrev pub IsTarget : List Raw → Raw → ℕ → Type 0
IsTarget before m id = (synced before m ≡ Some id) ⊎ ((is_some (object before id) ≡ true) ⊎ (is_some (object (m ∷ before) id) ≡ true))

-- each of the events that answer the message goes to such an id
abbrev pub AreTargets : List Raw → Raw → List Raw → Type 0
AreTargets before m [] = Unit {0}
AreTargets before m (event ∷ events) = IsTarget before m event.id × AreTargets before m events

-- ---- where objects are announced

-- the event that announces an object: the connection, the seat, a device, or an interface of a device
abbrev pub announced_as : Setup → ℕ → ℕ → Option ℕ → KnownInterface → Option Raw
announced_as setup id v device known.Connection = Some (connection_event 0 setup.serial id)
announced_as setup id v device known.Seat = Some (seat_event connection_id id v)
announced_as setup id v device known.Device = Some (device_event id v)
announced_as setup id v (Some device) interface = Some (interface_event device id interface v)
announced_as setup id v None interface = None

abbrev pub announcement : Setup → ℕ → Entry → Option Raw
announcement setup id e = announced_as setup id e.version e.device e.interface

-- the event is one of these
abbrev pub IsAmong : Raw → List Raw → Type 0
IsAmong event [] = ⊥
IsAmong event (x ∷ xs) = (x ≡ event) ⊎ IsAmong event xs

-- there is such an event, and it is one of these
abbrev pub IsSaid : Option Raw → List Raw → Type 0
IsSaid None events = ⊥
IsSaid (Some event) events = IsAmong event events
