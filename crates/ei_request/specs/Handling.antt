-- What the converter does with a request.
use Rattle.std.specs.Prelude.{◌≡◌, ℕ, Bool, true, false, List, [], ◌∷◌, ◌++◌, Option, Some, None, Result, Ok, Err, find}
use Rattle.ei_spec.specs.Interface.{ObjectView}
use Rattle.ei_server.specs.declared.request.Request.{Request}
use Rattle.ei_server.specs.Request.{target_of}
use Rattle.ei_server.specs.declared.device.Request.{Request as Device}
use Rattle.ei_server.specs.declared.device.Request.TheVariants as device
use Rattle.ei_types.specs.declared.capability.DeviceCapabilities.{DeviceCapabilities}
use Rattle.ei_types.specs.declared.error.Error.{Error}
use Rattle.ei_input.specs.declared.input_event.InputEvent.{InputEvent}
use Rattle.ei_session.specs.Meaning.{Meaning, Shakes, Syncs, Disconnects, Pongs, ReleasesSeat, Binds, RequestsDevice, Closes, Starts, Stops, Frames}
use Rattle.ei_session.specs.Meaning.{Readies, Releases, Inputs}
use Rattle.ei_backend.specs.Outside.{ReadsClock}
use Rattle.ei_request.specs.Keys.{DeviceKey}
use Rattle.ei_request.specs.Typed.{meaning_of}
use Rattle.ei_request.specs.Held.{SeatView, DeviceView, is_seat, is_device, has_interface, is_waiting, changed_first, released, emptied, without_interface}
use Rattle.ei_request.specs.Held.{takes_input, group_requests}
use Rattle.ei_request.specs.Connection.{ConnectionView, next_serial}
use Rattle.ei_request.specs.Sending.{called, destroyed}
use Rattle.ei_request.specs.Converter.{ConverterView}
use Rattle.ei_request.specs.Refusing.{refusal, Tells}
use Rattle.ei_request.specs.declared.event.EisRequest.{EisRequest}
use Rattle.ei_request.specs.declared.event.EisRequest.TheVariants as asked

-- ---- what becomes of the connection

-- a callback is called
abbrev pub calls_back : ConnectionView → ℕ → ConnectionView
calls_back c callback = record c { ctx = called c.ctx callback }

-- the client is told that its seat is gone; if the seat is held it stays, as released
abbrev pub releases_seat : ConnectionView → ℕ → ConnectionView
releases_seat c id = record c {
  ctx = destroyed c.ctx id (next_serial c.last_serial);
  last_serial = next_serial c.last_serial;
  seats = changed_first
      (is_seat id) released c.seats;
}

-- an interface leaves its device, if one has it, and the client is told that it is gone
abbrev pub gives_up : ConnectionView → ℕ → Option DeviceView → ConnectionView
gives_up c id None = c
gives_up c id (Some d) = record c {
  ctx = destroyed c.ctx id (next_serial c.last_serial);
  last_serial = next_serial c.last_serial;
  devices = changed_first (has_interface id) (without_interface id) c.devices;
}

-- the device that has the interface takes an input, if one has it
abbrev pub hears : ConnectionView → ℕ → InputEvent → ConnectionView
hears c id i = record c { devices = changed_first (has_interface id) (takes_input i) c.devices }

-- what a request to an interface of a device does: an input is taken, and else the interface is given up
abbrev pub obeys : ConnectionView → ℕ → Option InputEvent → ConnectionView
obeys c id None = gives_up c id (find (has_interface id) c.devices)
obeys c id (Some i) = hears c id i

-- nothing waits on the device of that id
abbrev pub emptied_at : ConnectionView → ℕ → ConnectionView
emptied_at c id = record c { devices = changed_first (is_device id) emptied c.devices }

-- ---- what is handed out

-- one more request is queued
abbrev pub queues : ConverterView → EisRequest → ConverterView
queues c request = record c { queue = c.queue ++ request ∷ [] }

-- a request that names a seat is queued, where the seat is held
abbrev pub queues_of_seat : ConverterView → (ObjectView → EisRequest) → Option SeatView → ConverterView
queues_of_seat c make None = c
queues_of_seat c make (Some s) = queues c (make s.proxy)

abbrev pub set_of : ℕ → DeviceCapabilities
set_of mask = record { 0 = mask }

abbrev pub bind_of : ℕ → ObjectView → EisRequest
bind_of mask seat = asked.Bind (record { seat = seat; capabilities = set_of mask })

abbrev pub request_device_of : ℕ → ObjectView → EisRequest
request_device_of mask seat = asked.RequestDevice (record { seat = seat; capabilities = set_of mask })

-- what waits on the device is handed out with a frame, where the device is held
abbrev pub hands_out : ConverterView → ℕ → ℕ → ℕ → Option DeviceView → ConverterView
hands_out c id serial time None = c
hands_out c id serial time (Some d) = record c { handle = emptied_at c.handle id; queue = c.queue ++ group_requests d.device d.waiting serial time }

-- what waits on the device is handed out with a made frame, and then the request, where the device is held
abbrev pub closes : ConverterView → ℕ → ℕ → (DeviceKey → EisRequest) → Option DeviceView → ConverterView
closes c id time make None = c
closes c id time make (Some d) = record c {
  handle = emptied_at c.handle id;
  queue = (c.queue ++ group_requests d.device d.waiting c.handle.last_serial time) ++ make d.device ∷ [];
}

abbrev pub closed_of : DeviceKey → EisRequest
closed_of device = asked.DeviceClosed (record { device = device })

abbrev pub ready_of : DeviceKey → EisRequest
ready_of device = asked.Ready (record { device = device })

abbrev pub start_of : ℕ → ℕ → DeviceKey → EisRequest
start_of serial sequence device = asked.DeviceStartEmulating (record { device = device; last_serial = serial; sequence = sequence })

abbrev pub stop_of : ℕ → DeviceKey → EisRequest
stop_of serial device = asked.DeviceStopEmulating (record { device = device; last_serial = serial })

abbrev pub frame_of : ℕ → ℕ → DeviceKey → EisRequest
frame_of serial time device = asked.Frame (record { device = device; last_serial = serial; time = time })

-- what a request to a device becomes where it is queued
abbrev pub queued_of : Device → DeviceKey → EisRequest
queued_of device.Release = closed_of
queued_of (device.StartEmulating serial sequence) = start_of serial sequence
queued_of (device.StopEmulating serial) = stop_of serial
queued_of (device.Frame serial time) = frame_of serial time
queued_of device.Ready = ready_of

-- ---- any request

-- the device of that id, if it is held
abbrev pub device_in : ConverterView → ℕ → Option DeviceView
device_in c id = find (is_device id) c.handle.devices

-- a request to the object of that id, with what the clock said where it was asked
abbrev pub handled : ConverterView → ℕ → Meaning → ℕ → ConverterView
handled c id (Shakes shake) time = c
handled c id (Syncs callback version) time = record c { handle = calls_back c.handle callback }
handled c id Disconnects time = queues c asked.Disconnect
handled c id (Pongs number) time = c
handled c id ReleasesSeat time = record c { handle = releases_seat c.handle id }
handled c id (Binds mask) time = queues_of_seat c (bind_of mask) (find (is_seat id) c.handle.seats)
handled c id (RequestsDevice mask) time = queues_of_seat c (request_device_of mask) (find (is_seat id) c.handle.seats)
handled c id Closes time = closes c id time closed_of (device_in c id)
handled c id (Starts serial sequence) time = closes c id time (start_of serial sequence) (device_in c id)
handled c id (Stops serial) time = closes c id time (stop_of serial) (device_in c id)
handled c id (Frames serial sent) time = hands_out c id serial sent (device_in c id)
handled c id Readies time = closes c id time ready_of (device_in c id)
handled c id Releases time = record c { handle = obeys c.handle id None }
handled c id (Inputs i) time = record c { handle = obeys c.handle id (Some i) }

-- whether the request closes an open group of the device
abbrev pub closes_group : Meaning → Bool
closes_group Closes = true
closes_group (Starts serial sequence) = true
closes_group (Stops serial) = true
closes_group Readies = true
closes_group other = false

abbrev pub is_some_waiting : Option DeviceView → Bool
is_some_waiting None = false
is_some_waiting (Some d) = is_waiting d

-- the time is the next reading, where the clock is asked; else it isn't read
abbrev pub Times : Bool → Bool → ℕ → Option (List ℕ) → Option (List ℕ) → Type 0
Times true true time before after = (told : List ℕ) → before ≡ Some told → ReadsClock told after time
Times closing waiting time before after = after ≡ before

-- The request is taken: nothing refuses it, the clock is asked where a frame is made, and the converter does what it asks.
pub record TakesRequest (old : ConverterView) (id version : ℕ) (meaning : Meaning) (before after : Option (List ℕ)) (new : ConverterView) : Type 0 where
  pub time : ℕ
  pub accepted : refusal old.handle id version meaning ≡ None
  pub clock : Times (closes_group meaning) (is_some_waiting (device_in old id)) time before after
  pub does : new ≡ handled old id meaning time

-- The request is refused: the error says why, and nothing changes. The clock isn't asked.
pub record Refuses (old : ConverterView) (id version : ℕ) (meaning : Meaning) (e : Error) (before after : Option (List ℕ)) (new : ConverterView) : Type 0 where
  pub why : Tells (refusal old.handle id version meaning) e
  pub same : new ≡ old
  pub unread : after ≡ before

-- what the converter does with a request to the object of that id and version
abbrev pub HandlesTo : ConverterView → ℕ → ℕ → Meaning → Option (List ℕ) → Result Unit Error → Option (List ℕ) → ConverterView → Type 0
HandlesTo old id version meaning before (Ok x) after new = TakesRequest old id version meaning before after new
HandlesTo old id version meaning before (Err e) after new = Refuses old id version meaning e before after new

-- what the converter does with a request
abbrev pub Handles : ConverterView → Request → Option (List ℕ) → Result Unit Error → Option (List ℕ) → ConverterView → Type 0
Handles old r before result after new = HandlesTo old (target_of r).id (target_of r).version (meaning_of r) before result after new
