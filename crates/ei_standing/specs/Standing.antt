-- A converter that stands for a history.
use Rattle.std.specs.Prelude.{◌≡◌, ℕ, ◌+◌, ◌≤◌, Bool, true, false, not, ◌&&◌, ◌==◌, List, [], ◌∷◌, ◌++◌, map, length, find}
use Rattle.std.specs.Prelude.{Option, Some, None, is_some, nat_eq, if◌then◌else◌, codes}
use Rattle.std.specs.Option.{option_map}
use Rattle.std.specs.List.{list_any, IsDistinct}
use Rattle.ei_spec.specs.declared.interface.KnownInterface.{KnownInterface}
use Rattle.ei_spec.specs.declared.interface.KnownInterface.TheVariants as known
use Rattle.ei_spec.specs.Interface.{Known, ObjectView}
use Rattle.ei_spec.specs.Message.{Raw, all_bytes}
use Rattle.ei_spec.specs.History.{each, occurs}
use Rattle.ei_spec.specs.Groups.{Timed, Framed, Plain as Given, group, frames_made, gives}
use Rattle.ei_types.specs.Capability.{all_bits}
use Rattle.ei_types.specs.declared.error.HandshakeError.TheVariants as handshake
use Rattle.ei_backend.specs.Table.{TableView, found}
use Rattle.ei_backend.specs.Backend.{BackendView}
use Rattle.ei_handshake.specs.declared.server.EisHandshakeResp.{EisHandshakeResp}
use Rattle.ei_session.specs.Setup.{Setup, connection_id, seat_id}
use Rattle.ei_session.specs.Handshake.{connected, settled, version}
use Rattle.ei_session.specs.SettledMap.{settled_map}
use Rattle.ei_session.specs.NextIds.{next_own, next_peer}
use Rattle.ei_session.specs.Devices.{seat_is_open}
use Rattle.ei_session.specs.Objects.{Entry, object, was_device, is_device as is_of_device, interfaces_left}
use Rattle.ei_session.specs.Serial.{serial}
use Rattle.ei_session.specs.Touches.{is_down}
use Rattle.ei_session.specs.Refusals.{Refusal, Handshake, InvalidInterfaceVersion, Request as BadRequest, came}
use Rattle.ei_session.specs.Asked.{asks}
use Rattle.ei_session.specs.Requests.{slot, Request, Plain, Bind, RequestDevice, Ready, DeviceClosed, DeviceStartEmulating, DeviceStopEmulating, Disconnect}
use Rattle.ei_session.specs.Replies.{seat_event, capability_events, done_event}
use Rattle.ei_session.specs.Events.{reply}
use Rattle.ei_request.specs.declared.event.EisRequest.{EisRequest}
use Rattle.ei_request.specs.declared.event.EisRequest.TheVariants as asked
use Rattle.ei_input.specs.declared.input_event.InputEvent.{InputEvent}
use Rattle.ei_request.specs.Keys.{DeviceKey}
use Rattle.ei_request.specs.Event.{timed}
use Rattle.ei_request.specs.Held.{SeatView, DeviceView, is_device, has_interface}
use Rattle.ei_request.specs.Connection.{ConnectionView}
use Rattle.ei_request.specs.Sending.{says, no_object_event}
use Rattle.ei_request.specs.Handling.{set_of, bind_of, request_device_of, closed_of, ready_of, start_of, stop_of}
use Rattle.ei_request.specs.Refusing.{Reason, OfHandshake, BadVersion, Bad}
use Rattle.ei_request.specs.Converter.{ConverterView}

-- ---- objects of the history

-- an object as the table has it
abbrev pub object_of : ℕ → Entry → ObjectView
object_of id e = record { id = id; interface = Known e.interface; version = e.version; client_side = false }

-- the connection, the seat, and a device of it
abbrev pub connection_object : ObjectView
connection_object = record { id = connection_id; interface = Known known.Connection; version = 1; client_side = false }

abbrev pub seat_of : List Raw → ObjectView
seat_of past = record { id = seat_id; interface = Known known.Seat; version = version past known.Seat; client_side = false }

abbrev pub device_of : List Raw → ℕ → DeviceKey
device_of past id = record { seat = seat_of past; proxy = record { id = id; interface = Known known.Device; version = version past known.Device; client_side = false } }

-- what is held of the seat: it was given the capabilities of the setup, and stays where the client released it
abbrev pub seat_held : Setup → List Raw → SeatView
seat_held setup past = record { proxy = seat_of past; capabilities = set_of setup.capabilities; released = not (seat_is_open past) }

-- ---- what is held of devices

-- what is held of the device of that id: its interfaces that are left, the inputs since its last closing, and the touches that are down
pub record IsDevice (setup : Setup) (past : List Raw) (id : ℕ) (d : DeviceView) : Type 0 where
  pub there : was_device (object past id) ≡ true
  pub device : d.device ≡ device_of past id
  pub unnamed : d.name ≡ None
  pub interfaces : map (λ o. o.id) d.interfaces ≡ interfaces_left past id
  pub objects : (i : ℕ) (o : ObjectView) → find (λ x. nat_eq x.id i) d.interfaces ≡ Some o → option_map (object_of i) (object past i) ≡ Some o
  pub waiting : d.waiting ≡ group id (each (slot setup) past)
  pub touches : (touch : ℕ) → list_any (nat_eq touch) d.touches ≡ is_down past id touch
  pub once : IsDistinct nat_eq d.touches

abbrev pub IsHeldAt : Setup → List Raw → ℕ → Option DeviceView → Type 0
IsHeldAt setup past id None = was_device (object past id) ≡ false
IsHeldAt setup past id (Some d) = IsDevice setup past id d

-- the ids rise
abbrev pub RiseFrom : ℕ → List DeviceView → Type 0
RiseFrom from [] = Unit {0}
RiseFrom from (d ∷ ds) = (from ≤ d.device.proxy.id) × RiseFrom (d.device.proxy.id + 1) ds

-- these are the devices that the messages left, by rising ids; an interface that is left is that of its device
pub record AreDevices (setup : Setup) (past : List Raw) (ds : List DeviceView) : Type 0 where
  pub rise : RiseFrom 0 ds
  pub each_one : (id : ℕ) → IsHeldAt setup past id (find (is_device id) ds)
  pub owners : (id d : ℕ) (e : Entry) → object past id ≡ Some e → e.device ≡ Some d → is_of_device e.interface ≡ false →
      find (has_interface id) ds ≡ find (is_device d) ds
  pub no_owner : (id : ℕ) → object past id ≡ None → find (has_interface id) ds ≡ None

-- ---- what the converter is

-- whether the client told its name before the finish; behind it such a message goes to no object, and tells nothing
abbrev pub was_named : List Raw → Bool
was_named past = occurs (λ before m. not (connected before) && ((m.id == 0) && asks known.Handshake (codes "name") m)) past

-- What the converter is after these messages, with the readings of the clock so far, but for what is queued, unread and unsent.
pub record IsHeld (setup : Setup) (past : List Raw) (readings : List ℕ) (c : ConverterView) : Type 0 where
  pub lawful : setup.capabilities ≤ all_bits
  pub connected : connected past ≡ true
  -- the endpoint
  pub server : c.handle.ctx.table.client ≡ false
  pub opened : c.handle.ctx.closed ≡ false
  pub no_handles : c.handle.ctx.unsent_handles ≡ []
  pub objects : (id : ℕ) → found c.handle.ctx.table id ≡ option_map (object_of id) (object past id)
  pub own : c.handle.ctx.table.next_own ≡ next_own past
  pub peer : c.handle.ctx.table.next_peer ≡ next_peer past
  -- the connection
  pub proxy : c.handle.proxy ≡ connection_object
  pub name : is_some c.handle.name ≡ was_named past
  pub versions : c.handle.negotiated ≡ settled_map past
  pub serial : c.handle.last_serial ≡ serial setup past
  pub seats : c.handle.seats ≡ seat_held setup past ∷ []
  pub devices : AreDevices setup past c.handle.devices
  pub going_on : c.handle.disconnected ≡ false
  pub frames : length readings ≡ frames_made (each (slot setup) past)

-- What the handshake hands over, at a finish behind these messages: an open endpoint of a server, with the connection for its
-- one object, and what was settled. What is unread and unsent is left open.
pub record HandedOver (before : List Raw) (resp : EisHandshakeResp) (ctx : BackendView) : Type 0 where
  pub connection : resp.connection ≡ connection_object
  pub named : is_some resp.name ≡ came (codes "name") before
  pub versions : resp.negotiated_interfaces ≡ settled_map before
  pub server : ctx.table.client ≡ false
  pub opened : ctx.closed ≡ false
  pub no_handles : ctx.unsent_handles ≡ []
  pub objects : (id : ℕ) → found ctx.table id ≡ (if id == connection_id then Some connection_object else None)
  pub own : ctx.table.next_own ≡ seat_id
  pub peer : ctx.table.next_peer ≡ 1

-- ---- what is handed out

-- the key of a device, by the versions of the seat's interface and the device's
abbrev pub key_by : (KnownInterface → ℕ) → ℕ → DeviceKey
key_by versions id = record {
  seat = record { id = seat_id; interface = Known known.Seat; version = versions known.Seat; client_side = false };
  proxy = record { id = id; interface = Known known.Device; version = versions known.Device; client_side = false };
}

-- a request of the definitions as the code hands it out, by these versions
abbrev pub plain_as : (KnownInterface → ℕ) → Plain → EisRequest
plain_as versions (Bind seat mask) = bind_of mask (key_by versions 0).seat
plain_as versions (RequestDevice seat mask) = request_device_of mask (key_by versions 0).seat
plain_as versions (Ready d) = ready_of (key_by versions d)
plain_as versions (DeviceClosed d) = closed_of (key_by versions d)
plain_as versions (DeviceStartEmulating d serial sequence) = start_of serial sequence (key_by versions d)
plain_as versions (DeviceStopEmulating d serial) = stop_of serial (key_by versions d)
plain_as versions Disconnect = asked.Disconnect

abbrev pub handed_as : (KnownInterface → ℕ) → Request → EisRequest
handed_as versions (Timed d i time) = timed (key_by versions d) time i
handed_as versions (Framed d serial time) = asked.Frame (record { device = key_by versions d; last_serial = serial; time = time })
handed_as versions (Given y) = plain_as versions y

-- by the versions that the messages settled
abbrev pub plain_in_code : List Raw → Plain → EisRequest
plain_in_code past y = plain_as (version past) y

abbrev pub request_in_code : List Raw → Request → EisRequest
request_in_code past r = handed_as (version past) r

-- The converter took one more message: it stands for it, with the readings used; it queued what the message gives, for
-- any readings that go on with these, and sent what answers it.
pub record TookOne (setup : Setup) (past : List Raw) (m : Raw) (readings used : List ℕ) (c new : ConverterView) : Type 0 where
  pub held : IsHeld setup (m ∷ past) (readings ++ used) new
  pub queue : (later : List ℕ) → new.queue ≡ c.queue ++ map (request_in_code past) (gives ((readings ++ used) ++ later) (each (slot setup) past) (slot setup past m))
  pub unsent : new.handle.ctx.unsent ≡ c.handle.ctx.unsent ++ all_bytes (reply setup past m)
  pub unread : new.handle.ctx.unread ≡ c.handle.ctx.unread
  pub handles : new.handle.ctx.handles ≡ c.handle.ctx.handles

-- the reading that a made frame takes, where something waits on the device of that id
abbrev pub used_by : List InputEvent → ℕ → List ℕ
used_by [] time = []
used_by (x ∷ xs) time = time ∷ []

-- ---- what is told

-- the events of the seat that stands behind the finish
abbrev pub seat_events : Setup → List Raw → List Raw
seat_events setup before =
    seat_event connection_id seat_id (version before known.Seat)
    ∷ (capability_events seat_id setup.capabilities (λ interface. is_some (settled before interface)) ++ (done_event seat_id ∷ []))

-- the client is told that no object has the id
abbrev pub tells_no_object : ConnectionView → ℕ → ConnectionView
tells_no_object c id = record c { ctx = says c.ctx (no_object_event c.proxy.id c.last_serial id) }

-- the endpoint has these objects
abbrev pub with_table : ConverterView → TableView → ConverterView
with_table c table = record c { handle = record c.handle { ctx = record c.handle.ctx { table = table } } }

-- ---- what is refused

-- a refusal as the session tells it; none is for the handshake, since its object goes with the finish
abbrev pub refusal_told : Reason → Refusal
refusal_told OfHandshake = Handshake handshake.NonHandshakeEvent
refusal_told (BadVersion interface version) = InvalidInterfaceVersion interface version
refusal_told (Bad error) = BadRequest error
