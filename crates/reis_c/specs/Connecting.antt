-- What each call does to the connection behind the word.
use Rattle.std.specs.Prelude.{◌≡◌, ◌≢◌, ◌⊎◌, ℕ, List, [], ◌∷◌, length, map, Bool, true, false, not, ◌&&◌, Option, Some, None, is_some}
use Rattle.ei_types.specs.Capability.{bit_of}
use Rattle.ei_types.specs.declared.capability.DeviceCapability.{DeviceCapability}
use Rattle.ei_backend.specs.Outgoing.{unsent_after}
use Rattle.ei_input.specs.declared.input_event.InputEvent.{InputEvent}
use Rattle.ei_request.specs.Connection.{ConnectionView}
use Rattle.ei_request.specs.declared.event.EisRequest.{EisRequest}
use Rattle.ei_request.specs.declared.making.DeviceSetup.{DeviceSetup}
use Rattle.reis_eis.specs.declared.call_error.CallError.{CallError}
use Rattle.reis_eis.specs.declared.notice.Notice.{Notice}
use Rattle.reis_eis.specs.View.{EisView}
use Rattle.reis_eis.specs.Words.{handle_in, queue_in, with_queue, unsent_in}
use Rattle.reis_eis.specs.Starting.{started, with_unsent_in}
use Rattle.reis_eis.specs.Feeding.{Feeds, end_of}
use Rattle.reis_eis.specs.Refusals.{feed_answer, end_answer, sent_answer, adding_seat, adding_device, on_device, sending, disconnecting}
use Rattle.reis_eis.specs.Acting.{AddsSeatAs, AddsDeviceAs, Resumes, SendsInput, Ends, ActsOn, TellsEnd, IsKept, refusal, refusal_in, has_in}
use Rattle.reis_strict.specs.View.{StrictView}
use Rattle.reis_strict.specs.Devices.{Devices, with_resumed, with_reserved}
use Rattle.reis_strict.specs.Sifting.{sifting, passing}
use Rattle.reis_c.specs.Answers.{outcome_number, reason_number}
use Rattle.reis_c.specs.Describing.{item_of, items_of, type_of, device_fault}
use Rattle.reis_c.specs.Flat.{flat, of_connected, of_notice, truth}
use Rattle.reis_c.specs.Given.{Unless, named, set_of, text_fault, bits_fault}
use Rattle.reis_c.specs.Handles.{handle_of}
use Rattle.reis_c.specs.Policy.{policy_for, knowing, forgetting, Sifts, HoldsBack}
use Rattle.reis_c.specs.declared.device.ReisDevice.{ReisDevice}
use Rattle.reis_c.specs.declared.device.ReisRegion.{ReisRegion}
use Rattle.reis_c.specs.declared.flat.ReisRequest.{ReisRequest}
use Rattle.reis_c.specs.declared.connection.Handed.{Handed}
use Rattle.reis_c.specs.declared.connection.HeldConnection.{HeldConnection}
use Rattle.reis_c.specs.Numbers.{OK, CAPABILITIES, NO_MEMORY, NOTHING, GONE, INVALID}

-- ---- what comes and goes

-- it was just started with that serial and these flags: its greeting waits, nothing was handed out, and nothing told to the policy
abbrev pub begun : ℕ → ℕ → HeldConnection
begun serial flags = record { connection = started serial; handed = record { last = None; connected = false }; policy = policy_for flags }

-- It takes a piece, or answers why not and is as it was. What was handed out stays, and so does the policy.
pub record FeedsConnection (bytes handles : List ℕ) (time answer : ℕ) (old new : HeldConnection) : Type 0 where
  pub answers : answer ≡ outcome_number (feed_answer (is_some old.connection.ending) (length bytes) (length handles))
  pub kept : answer ≢ OK → new ≡ old
  pub feeds : answer ≡ OK → Feeds (record { bytes = bytes; handles = map handle_of handles }) time old.connection new.connection
  pub handed : new.handed ≡ old.handed
  pub policy : new.policy ≡ old.policy

-- the connection that ended for want of input
abbrev pub without_input : EisView → EisView
without_input c = record c { ending = Some (end_of c.phase) }

-- It takes the end of the input, or answers that it is over and is as it was.
pub record EndsConnection (answer : ℕ) (old new : HeldConnection) : Type 0 where
  pub answers : answer ≡ outcome_number (end_answer (is_some old.connection.ending))
  pub kept : answer ≢ OK → new ≡ old
  pub ends : answer ≡ OK → new ≡ record old { connection = without_input old.connection }

-- So many of the bytes that wait were sent, and with the first of them all handles; or so many don't wait, and all is as it was.
pub record SendsBytes (bytes answer : ℕ) (old new : HeldConnection) : Type 0 where
  pub answers : answer ≡ outcome_number (sent_answer bytes (length (unsent_in old.connection.phase).bytes))
  pub kept : answer ≢ OK → new ≡ old
  pub dropped : answer ≡ OK →
      new ≡ record old { connection = with_unsent_in old.connection (unsent_after bytes (unsent_in old.connection.phase)) }

-- the connection in which these requests wait
abbrev pub awaiting : EisView → List EisRequest → EisView
awaiting c requests = record c { phase = with_queue c.phase requests }

-- what was handed out, the last of it this request, where it is one
abbrev pub with_last : Handed → Option EisRequest → Handed
with_last handed last = record handed { last = last }

-- the connection in which these notices wait
abbrev pub noticing : EisView → List Notice → EisView
noticing c notices = record c { notices = notices }

-- the first of these notices is written, and waits no more; or there is none, and all is as it was
abbrev pub HandsNotice : List Notice → ReisRequest → ℕ → ReisRequest → HeldConnection → HeldConnection → Type 0
HandsNotice [] room answer request old new = (answer ≡ NOTHING) × (request ≡ room) × (new ≡ old)
HandsNotice (n ∷ rest) room answer request old new =
    (answer ≡ OK) × (request ≡ of_notice n)
    × (new ≡ record old { connection = noticing old.connection rest; handed = with_last old.handed None })

-- the first of these requests is written, waits no more and is the last one; or there is none, and a notice may be
abbrev pub HandsFirst : List EisRequest → ReisRequest → ℕ → ReisRequest → HeldConnection → HeldConnection → Type 0
HandsFirst [] room answer request old new = HandsNotice old.connection.notices room answer request old new
HandsFirst (r ∷ rest) room answer request old new =
    (answer ≡ OK) × (request ≡ flat r)
    × (new ≡ record old { connection = awaiting old.connection rest; handed = with_last old.handed (Some r) })

-- the request that passes is written, and is the last one; or none does, and a notice may be
abbrev pub HandsPassing : Option EisRequest → ReisRequest → ℕ → ReisRequest → HeldConnection → HeldConnection → Type 0
HandsPassing None room answer request old new = HandsNotice old.connection.notices room answer request old new
HandsPassing (Some r) room answer request old new =
    (answer ≡ OK) × (request ≡ flat r) × (new ≡ record old { handed = with_last old.handed (Some r) })

-- It sifts the requests that wait by the policy, and then hands out the one that passes, or a notice.
pub record SiftsAndHands (s : StrictView) (room : ReisRequest) (answer : ℕ) (request : ReisRequest) (old new : HeldConnection) : Type 0 where
  pub sifted : StrictView
  pub connection : EisView
  pub sifts : Sifts s old.connection sifted connection
  pub hands : HandsPassing (passing (sifting s old.connection)) room answer request (record old { connection = connection; policy = Some sifted }) new

-- It hands out nothing, since memory ran out: what isn't dropped waits still.
pub record HandsNone (s : StrictView) (room : ReisRequest) (answer : ℕ) (request : ReisRequest) (old new : HeldConnection) : Type 0 where
  pub answers : answer ≡ NO_MEMORY
  pub kept : request ≡ room
  pub sifted : StrictView
  pub policy : new.policy ≡ Some sifted
  pub holds : HoldsBack s old.connection sifted new.connection
  pub handed : new.handed ≡ old.handed

-- the first request that passes by the policy is handed out, or, without one, the first that waits
abbrev pub HandsBy : Option StrictView → ReisRequest → ℕ → ReisRequest → HeldConnection → HeldConnection → Type 0
HandsBy None room answer request old new = HandsFirst (queue_in old.connection.phase) room answer request old new
HandsBy (Some s) room answer request old new = SiftsAndHands s room answer request old new ⊎ HandsNone s room answer request old new

-- that the handshake is done is written, where it is to be told; else a request or a notice is
abbrev pub HandsFrom : Bool → ReisRequest → ℕ → ReisRequest → HeldConnection → HeldConnection → Type 0
HandsFrom true room answer request old new =
    (answer ≡ OK) × (request ≡ of_connected) × (new ≡ record old { handed = record { last = None; connected = true } })
HandsFrom false room answer request old new = HandsBy old.policy room answer request old new

-- whether the handshake is done, and that isn't told yet
abbrev pub is_untold : HeldConnection → Bool
is_untold held = not held.handed.connected && is_some (handle_in held.connection.phase)

-- It hands out what comes next: once, that the handshake is done; and then the next request, or, where none is, the next notice.
abbrev pub HandsNext : ReisRequest → ℕ → ReisRequest → HeldConnection → HeldConnection → Type 0
HandsNext room answer request old new = HandsFrom (is_untold old) room answer request old new

-- ---- calls that are refused for a reason, or do something

-- It does this, or answers the reason why not, or that memory ran out: then nothing changes but how much memory is ready.
pub record Tries (reason : ConnectionView → Option CallError) (does : ConnectionView → ConnectionView → Type 0) (answer : ℕ)
    (old new : HeldConnection) : Type 0 where
  pub answers : answer ≢ NO_MEMORY → answer ≡ reason_number (refusal reason old.connection)
  pub done : answer ≡ OK → ActsOn does old.connection new.connection
  pub kept : answer ≢ OK → IsKept old.connection new.connection
  pub handed : new.handed ≡ old.handed
  pub policy : new.policy ≡ old.policy

-- The same, and memory runs out only where there is no reason.
pub record Does (reason : ConnectionView → Option CallError) (does : ConnectionView → ConnectionView → Type 0) (answer : ℕ)
    (old new : HeldConnection) : Type 0 where
  pub tries : Tries reason does answer old new
  pub memory : answer ≡ NO_MEMORY → refusal reason old.connection ≡ None

-- the connection and what was handed out, with that policy
abbrev pub with_policy : Option StrictView → HeldConnection → HeldConnection
with_policy policy held = record held { policy = policy }

-- The same of a call that the policy is told of where it is done: this becomes of what it keeps of the devices.
pub record DoesAndTells (reason : ConnectionView → Option CallError) (does : ConnectionView → ConnectionView → Type 0)
    (told : EisView → Devices → Devices) (answer : ℕ) (old new : HeldConnection) : Type 0 where
  pub acts : Does reason does answer old (with_policy old.policy new)
  pub tells : answer ≡ OK → new.policy ≡ knowing (told new.connection) old.policy
  pub kept : answer ≢ OK → new.policy ≡ old.policy

-- The client is told that the device takes input, and so is the policy; or the answer says why not. Where memory runs out the policy may have room
-- for the device by then, and nothing else changed.
pub record ResumesAndTells (device answer : ℕ) (old new : HeldConnection) : Type 0 where
  pub acts : Does (on_device device) (Resumes device) answer old (with_policy old.policy new)
  pub tells : answer ≡ OK → new.policy ≡ knowing (with_resumed device) old.policy
  pub kept : answer ≢ OK → (new.policy ≡ old.policy) ⊎ ((answer ≡ NO_MEMORY) × (new.policy ≡ knowing (with_reserved device) old.policy))

-- a seat of that name and these capabilities is announced, and has that id
abbrev pub AddsSeatTo : List ℕ → ℕ → ℕ → ℕ → HeldConnection → HeldConnection → Type 0
AddsSeatTo name bits answer id old new =
    Unless (bits_fault bits (text_fault name)) answer old new (Tries (adding_seat (named name)) (AddsSeatAs id (named name) (set_of bits)) answer old new)

-- A device of that seat is announced, with the items of the description in their order, and has that id; or it is told why not.
pub record Announces (seat : ℕ) (d : ReisDevice) (regions : List ReisRegion) (ids name : List ℕ) (answer id : ℕ) (old new : HeldConnection) : Type 0 where
  pub setup : List DeviceSetup
  pub items : map item_of setup ≡ items_of d regions ids
  pub tries : Tries (adding_device seat (named name) (set_of d.capabilities) setup)
      (AddsDeviceAs id seat (named name) (type_of d) (set_of d.capabilities) setup) answer old new

-- The same, or memory ran out.
pub record AnnouncesOr (seat : ℕ) (d : ReisDevice) (regions : List ReisRegion) (ids name : List ℕ) (answer id : ℕ) (old new : HeldConnection) : Type 0 where
  pub announces : answer ≢ NO_MEMORY → Announces seat d regions ids name answer id old new
  pub kept : answer ≡ NO_MEMORY → IsKept old.connection new.connection
  pub handed : new.handed ≡ old.handed
  pub policy : new.policy ≡ old.policy

-- the same where nothing is wrong with what was given
abbrev pub AddsDeviceTo : ℕ → ReisDevice → List ReisRegion → List ℕ → List ℕ → ℕ → ℕ → HeldConnection → HeldConnection → Type 0
AddsDeviceTo seat d regions ids name answer id old new =
    Unless (device_fault d regions ids name) answer old new (AnnouncesOr seat d regions ids name answer id old new)

-- The client is told that the connection ends, it ends by that, and nothing is kept of what is gone; or the answer says why not.
pub record EndsBy (reason : ℕ) (text : Option (List ℕ)) (answer : ℕ) (old new : HeldConnection) : Type 0 where
  pub answers : answer ≢ NO_MEMORY → answer ≡ reason_number (refusal_in (disconnecting reason text) old.connection.phase)
  pub memory : answer ≡ NO_MEMORY → refusal_in (disconnecting reason text) old.connection.phase ≡ None
  pub done : answer ≡ OK → TellsEnd (Ends reason text) old.connection new.connection
  pub tells : answer ≡ OK → new.policy ≡ knowing (forgetting new.connection) old.policy
  pub kept : answer ≢ OK → IsKept old.connection new.connection
  pub policy : answer ≢ OK → new.policy ≡ old.policy
  pub handed : new.handed ≡ old.handed

-- the same with the bytes of the text
abbrev pub Disconnects : ℕ → List ℕ → ℕ → HeldConnection → HeldConnection → Type 0
Disconnects reason text answer old new = Unless (text_fault text) answer old new (EndsBy reason (named text) answer old new)

-- the input goes to the client; or there is none in what was given
abbrev pub SendsTo : Option InputEvent → ℕ → ℕ → HeldConnection → HeldConnection → Type 0
SendsTo None device answer old new = (answer ≡ INVALID) × (new ≡ old)
SendsTo (Some input) device answer old new = Tries (sending device input) (SendsInput device input) answer old new

-- it is told whether the device has it; or there is no such device
abbrev pub TellsHas : Option Bool → ℕ → ℕ → Type 0
TellsHas None answer has = (answer ≡ GONE) × (has ≡ 0)
TellsHas (Some is) answer has = (answer ≡ OK) × (has ≡ truth is)

-- It is told whether the device has the capability of that bit; or the bit is no capability's.
pub record TellsDevice (device bit answer has : ℕ) (held : HeldConnection) : Type 0 where
  pub told : (one : DeviceCapability) → bit_of one ≡ bit → TellsHas (has_in device one held.connection.phase) answer has
  pub none : ((one : DeviceCapability) → bit_of one ≢ bit) → (answer ≡ CAPABILITIES) × (has ≡ 0)
