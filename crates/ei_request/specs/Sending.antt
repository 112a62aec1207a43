-- What the calls of a connection send, and what that makes of the endpoint.
use Rattle.std.specs.Prelude.{◌≡◌, ℕ, ◌+◌, true, List, [], ◌∷◌, ◌++◌, Option, codes, Result, OnOk, OnErr, IfErr}
use Rattle.std.specs.FinMap as map
use Rattle.ei_spec.specs.declared.interface.KnownInterface.{KnownInterface}
use Rattle.ei_spec.specs.declared.interface.KnownInterface.TheVariants as known
use Rattle.ei_spec.specs.Interface.{Known, ObjectView}
use Rattle.ei_spec.specs.Message.{Raw, bytes_of, all_bytes, size}
use Rattle.ei_spec.specs.Reading.{or_null}
use Rattle.ei_spec.specs.Value.{Word, Long, Letters}
use Rattle.ei_wire.specs.declared.error.SendError.{SendError}
use Rattle.ei_wire.specs.declared.error.SendError.TheVariants as send_error
use Rattle.ei_backend.specs.Backend.{BackendView, removed, unsent_of}
use Rattle.ei_backend.specs.Outgoing.{HasSpare}
use Rattle.ei_backend.specs.Endpoint.{Endpoint}
use Rattle.ei_session.specs.Arguments.{event}
use Rattle.ei_session.specs.Events.{callback_event, destroyed_event}
use Rattle.ei_request.specs.Connection.{ConnectionView, next_serial}

-- All is sent, and the value is what that makes of it; or, for want of memory, nothing changes.
pub record AllOrNothing {A V : Type 0} (result : Result A SendError) (old sent new : V) : Type 0 where
  pub ok : OnOk result (new ≡ sent)
  pub err : OnErr result (new ≡ old)
  pub only : IfErr result (λ e. e ≡ send_error.NoMemory)

-- so much more may wait that this message does without want of memory, which has no handle
abbrev pub HasRoomOf : Raw → BackendView → Type 0
HasRoomOf m b = HasSpare (size m) 0 (unsent_of b) b.room

-- ---- single events

-- the end of the connection, with a reason and a text, if there is one
abbrev pub disconnected_event : ℕ → ℕ → ℕ → Option (List ℕ) → Raw
disconnected_event connection serial reason text = event known.Connection (codes "disconnected") connection (Word serial ∷ Word reason ∷ or_null text ∷ [])

-- no object has the id
abbrev pub no_object_event : ℕ → ℕ → ℕ → Raw
no_object_event connection serial id = event known.Connection (codes "invalid_object") connection (Word serial ∷ Long id ∷ [])

-- a new device of a seat
abbrev pub device_event : ℕ → ℕ → ℕ → Raw
device_event seat device v = event known.Seat (codes "device") seat (Long device ∷ Word v ∷ [])

-- the name of a device
abbrev pub device_name_event : ℕ → List ℕ → Raw
device_name_event device name = event known.Device (codes "name") device (Letters name ∷ [])

-- whether a device is virtual or physical
abbrev pub device_type_event : ℕ → ℕ → Raw
device_type_event device kind = event known.Device (codes "device_type") device (Word kind ∷ [])

-- the device takes no input from now on
abbrev pub paused_event : ℕ → ℕ → Raw
paused_event device serial = event known.Device (codes "paused") device (Word serial ∷ [])

-- the server begins to send input of a device, and ends it
abbrev pub start_emulating_event : ℕ → ℕ → ℕ → Raw
start_emulating_event device serial sequence = event known.Device (codes "start_emulating") device (Word serial ∷ Word sequence ∷ [])

abbrev pub stop_emulating_event : ℕ → ℕ → Raw
stop_emulating_event device serial = event known.Device (codes "stop_emulating") device (Word serial ∷ [])

-- the input of a device since its last frame belongs together
abbrev pub frame_event : ℕ → ℕ → ℕ → Raw
frame_event device serial time = event known.Device (codes "frame") device (Word serial ∷ Long time ∷ [])

-- ---- one message

-- an endpoint with one more message buffered
abbrev pub says : BackendView → Raw → BackendView
says b m = record b { unsent = b.unsent ++ bytes_of m }

-- the object of that id is told to be gone, and is
abbrev pub destroyed : BackendView → ℕ → ℕ → BackendView
destroyed b id serial = removed (says b (destroyed_event id serial)) id

-- the callback is called, and is gone
abbrev pub called : BackendView → ℕ → BackendView
called b callback = removed (says b (callback_event callback)) callback

-- a connection whose client is told something as the event of the next serial
abbrev pub tells : ConnectionView → (ℕ → Raw) → ConnectionView
tells c event = record c { ctx = says c.ctx (event (next_serial c.last_serial)); last_serial = next_serial c.last_serial }

-- ---- several messages

-- an endpoint with messages buffered
abbrev pub sends_on : Endpoint → List Raw → Endpoint
sends_on e messages = record e { unsent = e.unsent ++ all_bytes messages }

-- the object of that id is told to be gone, and is
abbrev pub destroys : Endpoint → ℕ → ℕ → Endpoint
destroys e id serial = record e { objects = map.remove e.objects id; unsent = e.unsent ++ bytes_of (destroyed_event id serial) }

-- one object after another, with the serials that follow
abbrev pub destroys_all : Endpoint → ℕ → List ℕ → Endpoint
destroys_all e serial [] = e
destroys_all e serial (id ∷ ids) = destroys_all (destroys e id (next_serial serial)) (next_serial serial) ids

-- the last of these serials
abbrev pub serial_after : ℕ → List ℕ → ℕ
serial_after serial [] = serial
serial_after serial (id ∷ ids) = serial_after (next_serial serial) ids

-- the next object of this end
abbrev pub next_object : Endpoint → KnownInterface → ℕ → ObjectView
next_object e interface version = record { id = e.next_own; interface = Known interface; version = version; client_side = e.client }

-- a message that announces it
abbrev pub announces : Endpoint → Raw → KnownInterface → ℕ → Endpoint
announces e message interface version = record e {
  objects = map.insert e.objects e.next_own (next_object e interface version);
  next_own = e.next_own
      + 1;
  unsent = e.unsent ++ bytes_of message;
}

-- the connection is told to end, and is gone; the endpoint reads no more
abbrev pub ends : Endpoint → ℕ → ℕ → ℕ → Option (List ℕ) → Endpoint
ends e connection serial reason text =
    record e { objects = map.remove e.objects connection; unsent = e.unsent ++ bytes_of (disconnected_event connection serial reason text); closed = true }
