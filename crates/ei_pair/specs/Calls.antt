-- A call of a server, by what its connection is before and behind it.
use Rattle.std.specs.Prelude.{◌≡◌, ℕ, ◌<◌, ◌≤◌, ◌^◌, ◌↔◌, Bool, true, false, ◌&&◌, Option, Some, Result, Ok, Err, List, OnOk, IsErrOf, IsSome, find}
use Rattle.std.specs.List.{Any}
use Rattle.ei_spec.specs.declared.limits.TheConstants.{MOST_MESSAGE_BYTES}
use Rattle.ei_spec.specs.Interface.{Known, ObjectView}
use Rattle.ei_spec.specs.Message.{size}
use Rattle.ei_types.specs.Enums.{disconnect_reason_number, IsReason}
use Rattle.ei_wire.specs.declared.error.SendError.{SendError}
use Rattle.ei_wire.specs.declared.error.SendError.TheVariants as send_error
use Rattle.ei_session.specs.Events.{resumed_event}
use Rattle.ei_backend.specs.Table.{own_end}
use Rattle.ei_ends.specs.Sent.{new_of}
use Rattle.ei_ends.specs.Way.{onto}
use Rattle.ei_ends.specs.Steps.{HasId}
use Rattle.ei_values.specs.declared.value.Value.{Value}
use Rattle.ei_linked.specs.declared.record.Record.{Record}
use Rattle.ei_linked.specs.Stored.{sent_view, as_known}
use Rattle.ei_linked.specs.Asked.{asked, IsTooLong}
use Rattle.ei_linked.specs.Ends.{EndsView}
use Rattle.ei_linked.specs.declared.side.Side.TheVariants as side
use Rattle.ei_linked.specs.TwoEnds.{WorldView, CallsTo, end_of}
use Rattle.ei_request.specs.Held.{is_seat}
use Rattle.ei_request.specs.Connection.{ConnectionView, holds_device}
use Rattle.ei_request.specs.Connection.{Unchanged}
use Rattle.ei_request.specs.Converter.{ConverterView as ServerConverter}
use Rattle.ei_request.specs.Making.{AddsSeat, AddsDevice, NeedsKeyboard, IsGiven, granted_at, HasLongName, LacksIds, HasLongText}
use Rattle.ei_request.specs.Removing.{RemovesDevice, RemovesSeat, Disconnects}
use Rattle.ei_request.specs.Sending.{tells, start_emulating_event, stop_emulating_event, frame_event, disconnected_event}
use Rattle.ei_acts.specs.Holding.{pauses}
use Rattle.ei_acts.specs.Sendable.{IsText, AreLawful}
use Rattle.ei_promises.specs.declared.calls.ServerCall.{ServerCall}
use Rattle.ei_promises.specs.declared.calls.ServerCall.TheVariants as call
use Rattle.ei_promises.specs.declared.calls.Made.{Made}
use Rattle.ei_promises.specs.Pair.{PairView, ClientStage, Asks, Follows, ServerStage, Shakes, Serves, with_ends}
use Rattle.ei_promises.specs.Calling.{text_in, made_by, is_steady_call, MeetsServer, messages_of, DoesAt, SyncsWith}
use Rattle.ei_pair.specs.declared.server_end.ServerEnd.{ServerEnd}
use Rattle.ei_pair.specs.declared.server_end.ServerEnd.TheVariants as end
use Rattle.ei_pair.specs.Parts.{PartsView, pair_in}
use Rattle.ei_pair.specs.Stepped.{IsSound}
use Rattle.ei_pair.specs.Spent.{SpendsAtCall}

-- the target of an input is an object of the protocol
abbrev pub IsNamed : ServerCall → Type 0
IsNamed (call.Input target opcode values) = target.interface ≡ Known (as_known target.interface)
IsNamed other = Unit {0}

-- the condition of a call that is no input
abbrev pub MayMake : ServerCall → ConnectionView → Type 0
MayMake (call.AddDevice seat name kind capabilities setup) c = IsSome (find (is_seat seat.id) c.seats) × (Any NeedsKeyboard setup.now → IsGiven c seat.id capabilities)
MayMake (call.Resumed device) c = holds_device c device ≡ true
MayMake (call.Paused device) c = holds_device c device ≡ true
MayMake (call.StartEmulating device sequence) c = holds_device c device ≡ true
MayMake (call.StopEmulating device) c = holds_device c device ≡ true
MayMake (call.Frame device time) c = holds_device c device ≡ true
MayMake (call.Input target opcode values) c = ⊥
MayMake other c = Unit {0}

-- what it leaves
abbrev pub Leaves : ServerCall → ConnectionView → ConnectionView → Type 0
Leaves (call.AddSeat name capabilities) c new = AddsSeat c (text_in (call.AddSeat name capabilities)) capabilities new
Leaves (call.AddDevice seat name kind capabilities setup) c new =
    AddsDevice c seat (text_in (call.AddDevice seat name kind capabilities setup)) kind (granted_at c seat.id capabilities) setup.now new
Leaves (call.RemoveSeat seat) c new = RemovesSeat c seat.id new
Leaves (call.RemoveDevice device) c new = RemovesDevice c device new
Leaves (call.Resumed device) c new = new ≡ tells c (resumed_event device.proxy.id)
Leaves (call.Paused device) c new = new ≡ pauses c device
Leaves (call.StartEmulating device sequence) c new = new ≡ tells c (λ serial. start_emulating_event device.proxy.id serial sequence)
Leaves (call.StopEmulating device) c new = new ≡ tells c (stop_emulating_event device.proxy.id)
Leaves (call.Frame device time) c new = new ≡ tells c (λ serial. frame_event device.proxy.id serial time)
Leaves (call.Input target opcode values) c new = ⊥
Leaves (call.Disconnected reason explanation) c new =
    Disconnects c (disconnect_reason_number reason) (text_in (call.Disconnected reason explanation)) new

-- ---- when it is refused

-- the message of an input, where the connection is so
abbrev pub input_of : ObjectView → ℕ → List Value → ConnectionView → Record
input_of target opcode values c = asked c.ctx.table.next_own target.id (as_known target.interface) target.version opcode values

-- there is an own id for it, where it needs one
abbrev pub HasIdFor : Record → ConnectionView → Type 0
HasIdFor m c = HasId (new_of true (sent_view m)) c.ctx.table

-- the own ids that a call needs aren't left
abbrev pub LacksIdsFor : ServerCall → ConnectionView → Type 0
LacksIdsFor (call.AddSeat name capabilities) c = own_end c.ctx.table ≤ c.ctx.table.next_own
LacksIdsFor (call.AddDevice seat name kind capabilities setup) c = LacksIds c.ctx.table (granted_at c seat.id capabilities)
LacksIdsFor (call.Input target opcode values) c = HasIdFor (input_of target opcode values.now c) c → ⊥
LacksIdsFor other c = ⊥

-- they are left, but a message of it would be too long
abbrev pub IsLongFor : ServerCall → ConnectionView → Type 0
IsLongFor (call.AddSeat name capabilities) c = HasLongName c.ctx.table (text_in (call.AddSeat name capabilities))
IsLongFor (call.AddDevice seat name kind capabilities setup) c =
    HasLongText c.ctx.table (granted_at c seat.id capabilities) (text_in (call.AddDevice seat name kind capabilities setup)) setup.now
IsLongFor (call.Input target opcode values) c = HasIdFor (input_of target opcode values.now c) c × IsTooLong (input_of target opcode values.now c)
IsLongFor (call.Disconnected reason explanation) c =
    MOST_MESSAGE_BYTES < size (disconnected_event c.proxy.id 0 (disconnect_reason_number reason) (text_in (call.Disconnected reason explanation)))
IsLongFor other c = ⊥

-- the same of a server
abbrev pub LacksIdsAt : ServerStage → ServerCall → Type 0
LacksIdsAt (Shakes h) s = ⊥
LacksIdsAt (Serves c) s = LacksIdsFor s c.handle

abbrev pub IsLongAt : ServerStage → ServerCall → Type 0
IsLongAt (Shakes h) s = ⊥
IsLongAt (Serves c) s = IsLongFor s c.handle

-- a call answers this exactly where that holds; but want of memory may come in place of any answer to an input
abbrev pub ComesExactly : ServerCall → Result Made SendError → SendError → Type 0 → Type 0
ComesExactly (call.Input target opcode values) result e P = (IsErrOf result e → P) × OnOk result (P → ⊥)
ComesExactly other result e P = IsErrOf result e ↔ P

-- ---- what is so of each call of a program

-- its numbers are in the ranges of their types, and its texts are texts
abbrev pub IsFitting : ServerCall → Type 0
IsFitting (call.AddSeat name capabilities) = IsText (text_in (call.AddSeat name capabilities))
IsFitting (call.AddDevice seat name kind capabilities setup) = IsText (text_in (call.AddDevice seat name kind capabilities setup)) × AreLawful setup.now
IsFitting (call.StartEmulating device sequence) = sequence < 2 ^ 32
IsFitting (call.Frame device time) = time < 2 ^ 64
IsFitting (call.Disconnected reason explanation) = IsReason reason × IsText (text_in (call.Disconnected reason explanation))
IsFitting other = Unit {0}

-- ---- at what holds the connection

-- a server's end that talks meets the condition of a call that is no input
abbrev pub MayMakeAt : ServerCall → ServerEnd → Type 0
MayMakeAt s (end.Shaking b) = ⊥
MayMakeAt s (end.Talking c) = MayMake s c.handle

-- its connection made the call
pub record MakesAt (s : ServerCall) (old : ServerEnd) (made : Made) (new : ServerEnd) : Type 0 where
  pub converter : ServerConverter
  pub was : old ≡ end.Talking converter
  pub left : ConnectionView
  pub leaves : Leaves s converter.handle left
  pub made_is : made ≡ made_by s converter.handle
  pub ids : LacksIdsFor s converter.handle → ⊥
  pub short : IsLongFor s converter.handle → ⊥
  pub serial : converter.handle.last_serial < 2 ^ 32
  pub is : new ≡ end.Talking (record converter { handle = left })

-- it refused it
pub record RefusesAt (old new : ServerEnd) : Type 0 where
  pub converter : ServerConverter
  pub was : old ≡ end.Talking converter
  pub left : ConnectionView
  pub unchanged : Unchanged converter.handle left
  pub is : new ≡ end.Talking (record converter { handle = left })

-- how it answered
abbrev pub AnswersAt : ServerCall → ServerEnd → Result Made SendError → ServerEnd → Type 0
AnswersAt s old (Ok made) new = MakesAt s old made new
AnswersAt s old (Err e) new = RefusesAt old new

-- what is so of the connection at a server's end
abbrev pub LacksIdsAtEnd : ServerCall → ServerEnd → Type 0
LacksIdsAtEnd s (end.Shaking b) = ⊥
LacksIdsAtEnd s (end.Talking c) = LacksIdsFor s c.handle

abbrev pub IsLongAtEnd : ServerCall → ServerEnd → Type 0
IsLongAtEnd s (end.Shaking b) = ⊥
IsLongAtEnd s (end.Talking c) = IsLongFor s c.handle

-- two ends, of which what holds the server's is this
abbrev pub ends_on : ServerEnd → EndsView ServerEnd → EndsView ServerEnd
ends_on x e = record e { server = record e.server { context = x } }

-- ---- what a call of a pair's server comes to

-- how steady a call leaves a server that was as steady
abbrev pub steady_after : Bool → ServerCall → ServerStage → Bool
steady_after was s (Shakes h) = was
steady_after was s (Serves c) = was && is_steady_call s c.handle

-- the parts, as steady as they were where the call was refused, and else as steady as it left them
abbrev pub steadied : {H : Type 0} → Result Made SendError → Bool → PartsView H → PartsView H
steadied (Ok made) steady p = record p { steady = steady }
steadied (Err e) steady p = p

-- the server serves, and the call meets its condition
abbrev pub MeetsAt : ServerCall → WorldView → ServerStage → Type 0
MeetsAt s w (Shakes h) = ⊥
MeetsAt s w (Serves c) = MeetsServer s w c.handle

-- the messages of the server grew by those of the call
abbrev pub SendsAt : {H : Type 0} → ServerStage → ServerCall → PairView H → PairView H → Type 0
SendsAt (Shakes h) s old new = ⊥
SendsAt (Serves c) s old new = (end_of side.Server new.ends).sent ≡ onto (messages_of s old.ends c.handle) (end_of side.Server old.ends).sent

-- the server was asked for the call, and answered so
pub record ServesCall {H : Type 0} (s : ServerCall) (old : PartsView H) (result : Result Made SendError) (new : PartsView H) : Type 0 where
  pub does : new.ends.spent ≡ false → DoesAt (pair_in old).server s (pair_in old) result (pair_in new)
  pub sends : OnOk result (SendsAt (pair_in old).server s (pair_in old) (pair_in new))
  pub memory : new.ends.spent ≡ true → IsErrOf result send_error.NoMemory
  pub spent : new.ends.spent ≡ true → SpendsAtCall (pair_in old) (pair_in new)
  pub exhausted : ComesExactly s result send_error.IdsExhausted (LacksIdsAt (pair_in old).server s)
  pub long : ComesExactly s result send_error.MessageTooLong (IsLongAt (pair_in old).server s)
  pub sound : IsSound new

-- ---- a sync of a client with a handler of its callback

-- what a client was asked for, and what it answered: nothing has changed where it was refused
abbrev pub Syncs : {H : Type 0} → H → ClientStage H → PairView H → Result ObjectView SendError → PairView H → Type 0
Syncs handler (Asks h) old result new = ⊥
Syncs handler (Follows c) old (Ok o) new = SyncsWith handler c old (Some o) new
Syncs handler (Follows c) old (Err e) new = new ≡ old

-- the client was asked for it, and answered so
pub record SyncsCall {H : Type 0} (handler : H) (old : PartsView H) (result : Result ObjectView SendError) (new : PartsView H) : Type 0 where
  pub does : new.ends.spent ≡ false → Syncs handler (pair_in old).client (pair_in old) result (pair_in new)
  pub memory : new.ends.spent ≡ true → IsErrOf result send_error.NoMemory
  pub spent : new.ends.spent ≡ true → SpendsAtCall (pair_in old) (pair_in new)
  pub exhausted : IsErrOf result send_error.IdsExhausted ↔ (own_end old.ends.client.context.table ≤ old.ends.client.context.table.next_own)
  pub short : IsErrOf result send_error.MessageTooLong → ⊥
  pub sound : IsSound new

-- ---- a call of a client

-- the client was asked for the message to the object, and answered so
pub record CallsClient {H : Type 0} (target : ObjectView) (opcode : ℕ) (values : List Value) (old : PartsView H) (result : Result (Option ObjectView) SendError) (new : PartsView H) : Type 0 where
  pub does : CallsTo side.Client target opcode values result (pair_in old).ends (pair_in new).ends
  pub kept : pair_in new ≡ with_ends (pair_in new).ends (pair_in old)
  pub whole : new.ends.spent ≡ false
  pub sound : IsSound new
