-- What the calls of a program do.
use Rattle.std.specs.Prelude.{◌≡◌, ℕ, Bool, List, [], ◌∷◌, codes, Option, Some, None, Result, OnOk, OnErr, IfErr, is_some, unwrap_or, find}
use Rattle.std.specs.Option.{option_map}
use Rattle.ei_spec.specs.declared.interface.KnownInterface.TheVariants as known
use Rattle.ei_spec.specs.Interface.{Known, ObjectView}
use Rattle.ei_spec.specs.Message.{Raw}
use Rattle.ei_spec.specs.Value.{Word, Long}
use Rattle.ei_wire.specs.declared.error.SendError.{SendError}
use Rattle.ei_input.specs.declared.input_event.InputEvent.{InputEvent}
use Rattle.ei_types.specs.Capability.{interface_of}
use Rattle.ei_types.specs.declared.capability.DeviceCapabilities.{DeviceCapabilities}
use Rattle.ei_types.specs.declared.capability.DeviceCapability.{DeviceCapability}
use Rattle.ei_types.specs.declared.enums.DeviceType.{DeviceType}
use Rattle.ei_backend.specs.Backend.{BackendView, with_object}
use Rattle.ei_session.specs.Arguments.{event}
use Rattle.ei_session.specs.Events.{resumed_event}
use Rattle.ei_request.specs.Held.{SeatView, DeviceView, is_seat, is_device, gone_ids, without_first, changed_first, untouched}
use Rattle.ei_request.specs.Connection.{ConnectionView, Unchanged, version_in}
use Rattle.ei_request.specs.Converter.{ConverterView}
use Rattle.ei_request.specs.Making.{AddsSeat, AddsDevice, new_seat, granted_at}
use Rattle.ei_request.specs.Reading.{interface_in}
use Rattle.ei_request.specs.Removing.{TellsGone, RemovesSeat, Disconnects}
use Rattle.ei_request.specs.Sending.{says, tells, paused_event, start_emulating_event, stop_emulating_event, frame_event}
use Rattle.ei_request.specs.declared.making.DeviceSetup.{DeviceSetup}
use Rattle.reis_eis.specs.declared.call_error.CallError.{CallError}
use Rattle.reis_eis.specs.declared.call_error.CallError.TheVariants as call_error
use Rattle.reis_eis.specs.declared.ending.Ending.{Ending}
use Rattle.reis_eis.specs.declared.ending.Ending.TheVariants as ending
use Rattle.reis_eis.specs.declared.phase.Phase.{Phase}
use Rattle.reis_eis.specs.declared.phase.Phase.TheVariants as phase
use Rattle.reis_eis.specs.Inputs.{Event, told_by, message_to}
use Rattle.reis_eis.specs.Refusals.{object_at, too_long, of_send, Tells}
use Rattle.reis_eis.specs.View.{EisView}

-- ---- what each does to the connection

-- a seat is announced, and has that id
abbrev pub AddsSeatAs : ℕ → Option (List ℕ) → DeviceCapabilities → ConnectionView → ConnectionView → Type 0
AddsSeatAs id name capabilities old new = (id ≡ (new_seat old).id) × AddsSeat old name capabilities new

-- the seat of that id is taken away, behind its devices
abbrev pub RemovesSeatAt : ℕ → ConnectionView → ConnectionView → Type 0
RemovesSeatAt id old new = RemovesSeat old id new

-- a device of that seat is announced, with all the capabilities that are wanted
abbrev pub AddsDeviceTo : Option SeatView → Option (List ℕ) → DeviceType → DeviceCapabilities → List DeviceSetup → ConnectionView → ConnectionView → Type 0
AddsDeviceTo None name kind wanted setup old new = ⊥
AddsDeviceTo (Some s) name kind wanted setup old new = AddsDevice old s.proxy name kind (granted_at old s.proxy.id wanted) setup new

-- the same of the seat of an id; the device has the next id
abbrev pub AddsDeviceAs : ℕ → ℕ → Option (List ℕ) → DeviceType → DeviceCapabilities → List DeviceSetup → ConnectionView → ConnectionView → Type 0
AddsDeviceAs id seat name kind wanted setup old new =
    (id ≡ old.ctx.table.next_own) × AddsDeviceTo (find (is_seat seat) old.seats) name kind wanted setup old new

-- the device of that id is taken away, behind its interfaces
abbrev pub RemovesDeviceAt : ℕ → ConnectionView → ConnectionView → Type 0
RemovesDeviceAt id old new = TellsGone old (gone_ids (find (is_device id) old.devices)) old.seats (without_first (is_device id) old.devices) new

-- the client is told that the device of that id takes input
abbrev pub Resumes : ℕ → ConnectionView → ConnectionView → Type 0
Resumes id old new = new ≡ tells old (resumed_event id)

-- the client is told that it takes none, and no touch of it is down
abbrev pub Pauses : ℕ → ConnectionView → ConnectionView → Type 0
Pauses id old new = new ≡ record (tells old (paused_event id)) { devices = changed_first (is_device id) untouched old.devices }

-- the client is told that the device of that id begins to send input, and sends no more
abbrev pub StartsEmulating : ℕ → ℕ → ConnectionView → ConnectionView → Type 0
StartsEmulating id sequence old new = new ≡ tells old (λ serial. start_emulating_event id serial sequence)

abbrev pub StopsEmulating : ℕ → ConnectionView → ConnectionView → Type 0
StopsEmulating id old new = new ≡ tells old (stop_emulating_event id)

-- the client is told that the input of the device since its last frame belongs together
abbrev pub Frames : ℕ → ℕ → ConnectionView → ConnectionView → Type 0
Frames id time old new = new ≡ tells old (λ serial. frame_event id serial time)

-- which modifiers hold, and the layout, as the event of a keyboard with that serial
abbrev pub modifiers_event : ℕ → ℕ → ℕ → ℕ → ℕ → ℕ → Raw
modifiers_event depressed locked latched group keyboard serial =
    event known.Keyboard (codes "modifiers") keyboard (Word serial ∷ Word depressed ∷ Word locked ∷ Word latched ∷ Word group ∷ [])

-- the client is told something of an object that is there
abbrev pub TellsOf : Option ObjectView → (ℕ → ℕ → Raw) → ConnectionView → ConnectionView → Type 0
TellsOf None told old new = ⊥
TellsOf (Some o) told old new = new ≡ tells old (told o.id)

-- the client is told which modifiers hold on the keyboard of the device of that id
abbrev pub TellsModifiers : ℕ → ℕ → ℕ → ℕ → ℕ → ConnectionView → ConnectionView → Type 0
TellsModifiers id depressed locked latched group old new = TellsOf (object_at known.Keyboard id old) (modifiers_event depressed locked latched group) old new

-- an event goes to an object that is there
abbrev pub TellsTo : Event → Option ObjectView → ConnectionView → ConnectionView → Type 0
TellsTo e None old new = ⊥
TellsTo e (Some o) old new = new ≡ record old { ctx = says old.ctx (message_to e o.id) }

-- the client is told of an input of the device of that id
abbrev pub SendsInput : ℕ → InputEvent → ConnectionView → ConnectionView → Type 0
SendsInput id input old new = TellsTo (told_by input) (object_at (told_by input).interface id old) old new

-- The event of an input goes to an object, or, where it is too long, or for want of memory, nothing changes.
pub record TellsInput (input : InputEvent) (to : Option ObjectView) (old : ConnectionView) (result : Result (Unit {0}) SendError) (new : ConnectionView) : Type 0 where
  pub ok : OnOk result (TellsTo (told_by input) to old new)
  pub fits : OnOk result (too_long input ≡ None)
  pub why : IfErr result (λ e. Tells (too_long input) (of_send e))
  pub err : OnErr result (new ≡ old)

-- the client is asked to answer by a new ping of that id and version
abbrev pub ping_event : ℕ → ℕ → ℕ → Raw
ping_event connection ping v = event known.Connection (codes "ping") connection (Long ping ∷ Word v ∷ [])

-- the endpoint that asked so, in which the ping has the next id
abbrev pub asks_by_ping : BackendView → ℕ → ℕ → BackendView
asks_by_ping b connection v = with_object (says b (ping_event connection b.table.next_own v)) (Known known.Pingpong) v

-- the connection that did, with a ping of the version that both ends have
abbrev pub pinged : ConnectionView → ConnectionView
pinged c = record c { ctx = asks_by_ping c.ctx c.proxy.id (version_in c.negotiated known.Pingpong) }

-- a ping is announced, and has that id
abbrev pub PingsAs : ℕ → ConnectionView → ConnectionView → Type 0
PingsAs id old new = (id ≡ old.ctx.table.next_own) × (new ≡ pinged old)

-- the client is told that all is gone, and why
abbrev pub Ends : ℕ → Option (List ℕ) → ConnectionView → ConnectionView → Type 0
Ends reason text old new = Disconnects old reason text new

-- whether a device has the capability left
abbrev pub device_has : DeviceCapability → DeviceView → Bool
device_has capability d = is_some (interface_in (interface_of capability) (Some d))

-- ---- a call

-- It did this to the connection, and no request came or went.
pub record Acts (does : ConnectionView → ConnectionView → Type 0) (old new : ConverterView) : Type 0 where
  pub done : does old.handle new.handle
  pub queue : new.queue ≡ old.queue

-- Nothing changed but how much memory is ready.
pub record IsLeft (old new : ConverterView) : Type 0 where
  pub handle : Unchanged old.handle new.handle
  pub queue : new.queue ≡ old.queue

-- the same in any phase
abbrev pub ActsIn : (ConnectionView → ConnectionView → Type 0) → Phase → Phase → Type 0
ActsIn does (phase.Standing c) (phase.Standing d) = Acts does c d
ActsIn does p q = ⊥

abbrev pub IsLeftIn : Phase → Phase → Type 0
IsLeftIn (phase.Standing c) (phase.Standing d) = IsLeft c d
IsLeftIn p q = q ≡ p

-- A call on a connection that goes on did this to it.
pub record ActsOn (does : ConnectionView → ConnectionView → Type 0) (old new : EisView) : Type 0 where
  pub going : old.ending ≡ None
  pub acts : ActsIn does old.phase new.phase
  pub kept : new.ending ≡ old.ending
  pub notices : new.notices ≡ old.notices

-- The client was told that the connection ends, which it does by that where it hadn't ended.
pub record TellsEnd (does : ConnectionView → ConnectionView → Type 0) (old new : EisView) : Type 0 where
  pub acts : ActsIn does old.phase new.phase
  pub ending : new.ending ≡ Some (unwrap_or old.ending ending.Told)
  pub notices : new.notices ≡ old.notices

-- Nothing changed but how much memory is ready.
pub record IsKept (old new : EisView) : Type 0 where
  pub phase : IsLeftIn old.phase new.phase
  pub ending : new.ending ≡ old.ending
  pub notices : new.notices ≡ old.notices

-- why a call on a connection is refused: the handshake isn't done, or else for that reason
abbrev pub refusal_in : (ConnectionView → Option CallError) → Phase → Option CallError
refusal_in reason (phase.Standing c) = reason c.handle
refusal_in reason p = Some call_error.NotConnected

-- the same, or the connection has ended
abbrev pub refusal_of : (ConnectionView → Option CallError) → Option Ending → Phase → Option CallError
refusal_of reason (Some e) p = Some call_error.Over
refusal_of reason None p = refusal_in reason p

abbrev pub refusal : (ConnectionView → Option CallError) → EisView → Option CallError
refusal reason e = refusal_of reason e.ending e.phase

-- the devices that are held
abbrev pub devices_in : Phase → Option (List DeviceView)
devices_in (phase.Standing c) = Some c.handle.devices
devices_in p = None

-- whether the device of that id, where it is held, has the capability left
abbrev pub has_in : ℕ → DeviceCapability → Phase → Option Bool
has_in id capability (phase.Standing c) = option_map (device_has capability) (find (is_device id) c.handle.devices)
has_in id capability p = None
