-- What a server does behind its handshake, one act after another.
use Rattle.std.specs.Prelude.{◌≡◌, ℕ, ◌≤◌, true, false, List, [], ◌∷◌, ◌++◌, Option}
use Rattle.ei_spec.specs.declared.interface.KnownInterface.{KnownInterface}
use Rattle.ei_spec.specs.declared.interface.KnownInterface.TheVariants as known
use Rattle.ei_spec.specs.Interface.{ObjectView}
use Rattle.ei_types.specs.declared.capability.DeviceCapabilities.{DeviceCapabilities}
use Rattle.ei_types.specs.declared.enums.DeviceType.{DeviceType}
use Rattle.ei_session.specs.Events.{resumed_event}
use Rattle.ei_session.specs.Meaning.{Meaning}
use Rattle.ei_backend.specs.Table.{found}
use Rattle.ei_ends.specs.Sent.{Sent}
use Rattle.ei_request.specs.declared.event.EisRequest.{EisRequest}
use Rattle.ei_request.specs.declared.making.DeviceSetup.{DeviceSetup}
use Rattle.ei_request.specs.Keys.{DeviceKey}
use Rattle.ei_request.specs.Connection.{ConnectionView}
use Rattle.ei_request.specs.Sending as sending
use Rattle.ei_request.specs.Making.{granted_at}
use Rattle.ei_request.specs.Making as making
use Rattle.ei_request.specs.Removing as removing
use Rattle.ei_request.specs.Handling as handling
use Rattle.ei_acts.specs.Acts as acts
use Rattle.ei_acts.specs.There.{IsThere}
use Rattle.ei_acts.specs.Holding.{is_a_seat, is_destroyed, IsTargetOf, IsHeldAs, pauses}
use Rattle.ei_acts.specs.Input.{IsInput, input, having_sent}

-- ---- an act

-- what a server does: a call of its connection, the answer to a request to the object of an id, an input, or nothing that it sends.
-- A device and a seat are named by their keys, and by the objects that their messages go to.
pub data Act : Type 0 where
  Rests : Act
  Resumes : (key : DeviceKey) → (device : ObjectView) → Act
  Pauses : (key : DeviceKey) → (device : ObjectView) → Act
  StartsEmulating : (key : DeviceKey) → (device : ObjectView) → (sequence : ℕ) → Act
  StopsEmulating : (key : DeviceKey) → (device : ObjectView) → Act
  EndsFrame : (key : DeviceKey) → (device : ObjectView) → (time : ℕ) → Act
  SendsInput : (message : Sent) → Act
  TellsMissing : (id : ℕ) → Act
  Answers : (id : ℕ) → (meaning : Meaning) → (time : ℕ) → Act
  AddsSeat : (name : Option (List ℕ)) → (given : DeviceCapabilities) → Act
  AddsDevice : (key seat : ObjectView) → (name : Option (List ℕ)) → (kind : DeviceType) → (wanted : DeviceCapabilities) → (items : List DeviceSetup) → Act
  RemovesDevice : (key : DeviceKey) → Act
  RemovesSeat : (id : ℕ) → Act
  Disconnects : (reason : ℕ) → (text : Option (List ℕ)) → Act

-- the messages that it sends where the connection was so, the first in front
abbrev pub sent_by : Act → ConnectionView → List Sent
sent_by Rests c = []
sent_by (Resumes key device) c = acts.resumed c device
sent_by (Pauses key device) c = acts.paused c device
sent_by (StartsEmulating key device sequence) c = acts.start_emulating c device sequence
sent_by (StopsEmulating key device) c = acts.stop_emulating c device
sent_by (EndsFrame key device time) c = acts.frame c device time
sent_by (SendsInput message) c = input message
sent_by (TellsMissing id) c = acts.invalid_object c id
sent_by (Answers id meaning time) c = acts.answers c id meaning
sent_by (AddsSeat name given) c = acts.add_seat c name given
sent_by (AddsDevice key seat name kind wanted items) c = acts.add_device c seat name kind (granted_at c key.id wanted) items
sent_by (RemovesDevice key) c = acts.remove_device c key
sent_by (RemovesSeat id) c = acts.remove_seat c id
sent_by (Disconnects reason text) c = acts.disconnected c reason text

-- ---- what it does to the connection

-- nothing is sent: what may be held stays, and no seat comes, as where a request is read, bytes come or go, or memory is made ready
pub record IsQuiet (old new : ConnectionView) : Type 0 where
  pub next : old.ctx.table.next_own ≤ new.ctx.table.next_own
  pub stays : (id : ℕ) (k : KnownInterface) → is_destroyed k ≡ true → IsThere old.ctx.table id k → found new.ctx.table id ≡ found old.ctx.table id
  pub no_seat : (id : ℕ) → is_a_seat (found new.ctx.table id) ≡ true → is_a_seat (found old.ctx.table id) ≡ true
  pub seats : new.seats ≡ old.seats
  pub devices : new.devices ≡ old.devices
  pub proxy : new.proxy ≡ old.proxy

-- the converter of the connection handled the request, whatever was queued
abbrev pub IsHandled : ℕ → Meaning → ℕ → ConnectionView → ConnectionView → Type 0
IsHandled id meaning time old new = (queue : List EisRequest) × (new ≡ (handling.handled (record { handle = old; queue = queue }) id meaning time).handle)

-- the act was done, from one connection to another: what tells names a held device, and what answers a request to an object that is there
abbrev pub Makes : Act → ConnectionView → ConnectionView → Type 0
Makes Rests old new = IsQuiet old new
Makes (Resumes key device) old new = IsHeldAs old key device × (new ≡ sending.tells old (resumed_event key.proxy.id))
Makes (Pauses key device) old new = IsHeldAs old key device × (new ≡ pauses old key)
Makes (StartsEmulating key device sequence) old new = IsHeldAs old key device
    × (new ≡ sending.tells old (λ serial. sending.start_emulating_event key.proxy.id serial sequence))
Makes (StopsEmulating key device) old new = IsHeldAs old key device × (new ≡ sending.tells old (sending.stop_emulating_event key.proxy.id))
Makes (EndsFrame key device time) old new = IsHeldAs old key device
    × (new ≡ sending.tells old (λ serial. sending.frame_event key.proxy.id serial time))
Makes (SendsInput message) old new = new ≡ having_sent old message
Makes (TellsMissing id) old new = new ≡ record old { ctx = sending.says old.ctx (sending.no_object_event old.proxy.id old.last_serial id) }
Makes (Answers id meaning time) old new = IsTargetOf meaning old.ctx.table id × IsHandled id meaning time old new
Makes (AddsSeat name given) old new = making.AddsSeat old name given new
Makes (AddsDevice key seat name kind wanted items) old new = (seat.id ≡ key.id) × making.AddsDevice old key name kind (granted_at old key.id wanted) items new
Makes (RemovesDevice key) old new = removing.RemovesDevice old key new
Makes (RemovesSeat id) old new = removing.RemovesSeat old id new
Makes (Disconnects reason text) old new = removing.Disconnects old reason text new

-- ---- a steady act

-- a new device is of a seat that is alive in the table, and an input goes to an interface that a held device has
abbrev pub IsSteady : Act → ConnectionView → Type 0
IsSteady (SendsInput message) c = IsInput c message
IsSteady (AddsDevice key seat name kind wanted items) c = is_a_seat (found c.ctx.table key.id) ≡ true
IsSteady a c = Unit {0}

-- the act was done, and is steady
pub record Does (a : Act) (old new : ConnectionView) : Type 0 where
  pub steady : IsSteady a old
  pub made : Makes a old new

-- ---- several, each with the connection that it leaves

abbrev pub AllDone : ConnectionView → List (Act × ConnectionView) → Type 0
AllDone c [] = Unit {0}
AllDone c (step ∷ steps) = Does step.0 c step.1 × AllDone step.1 steps

-- all that they send
abbrev pub all_sent : ConnectionView → List (Act × ConnectionView) → List Sent
all_sent c [] = []
all_sent c (step ∷ steps) = sent_by step.0 c ++ all_sent step.1 steps

-- the connection that they leave
abbrev pub left_by : ConnectionView → List (Act × ConnectionView) → ConnectionView
left_by c [] = c
left_by c (step ∷ steps) = left_by step.1 steps

-- ---- where they begin

-- a connection right behind its handshake: it holds nothing
pub record IsFresh (c : ConnectionView) : Type 0 where
  pub seats : c.seats ≡ []
  pub devices : c.devices ≡ []
  pub no_seat : (id : ℕ) → is_a_seat (found c.ctx.table id) ≡ false

-- messages of the handshake
abbrev pub AllShake : List Sent → Type 0
AllShake [] = Unit {0}
AllShake (m ∷ ms) = (m.interface ≡ known.Handshake) × AllShake ms
