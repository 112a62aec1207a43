-- Two ends over links, and what a call does to them. Lists have the newest first.
use Rattle.std.specs.Prelude.{◌≡◌, ◌≤◌, ◌++◌, ℕ, Bool, true, false, List, [], length, Option, Some, None, IfSome, IsSome, Result, Ok, Err, min}
use Rattle.ei_spec.specs.declared.handle.Handle.{Handle}
use Rattle.ei_spec.specs.declared.interface.KnownInterface.{KnownInterface}
use Rattle.ei_spec.specs.Value.{Value}
use Rattle.ei_spec.specs.Interface.{Known, ObjectView}
use Rattle.ei_spec.specs.Piece.{Piece}
use Rattle.ei_spec.specs.Rows.{Row, row_at}
use Rattle.ei_spec.specs.Arguments.{AreOf}
use Rattle.ei_spec.specs.Table.{table}
use Rattle.ei_spec.specs.declared.limits.TheConstants.{MOST_UNREAD_HANDLES}
use Rattle.ei_wire.specs.Gives.{fault_of}
use Rattle.ei_wire.specs.declared.error.ReadError.{ReadError}
use Rattle.ei_wire.specs.declared.error.ReadError.TheVariants as read_error
use Rattle.ei_wire.specs.declared.error.SendError.{SendError}
use Rattle.ei_wire.specs.declared.error.SendError.TheVariants as send_error
use Rattle.ei_backend.specs.Backend.{BackendView, unsent_of, with_unsent, Waits, Refused, Gone, Message, next, new_backend}
use Rattle.ei_backend.specs.Table.{new_table, own_start}
use Rattle.ei_backend.specs.Outgoing.{nothing}
use Rattle.ei_backend.specs.declared.message.PendingRequestResult.{PendingRequestResult}
use Rattle.ei_backend.specs.declared.message.PendingRequestResult.TheVariants as pending
use Rattle.ei_ends.specs.Sent.{Sent, Got, New, new_of}
use Rattle.ei_ends.specs.Agree.{oldest, Agree, AreTimes, KeepsHandles, AllEqual, handles_sent, handles_got}
use Rattle.ei_ends.specs.Way.{End, seen_by}
use Rattle.ei_ends.specs.Steps.{no_piece, behind, left_over, HasId}
use Rattle.ei_ends.specs.Joined.{Joined, AllDelivered, acquainted}
use Rattle.ei_values.specs.declared.value.Value.{Value as Stored}
use Rattle.ei_linked.specs.declared.record.Record.{Record}
use Rattle.ei_linked.specs.declared.record.Got.TheVariants as got
use Rattle.ei_linked.specs.declared.side.Side.{Side}
use Rattle.ei_linked.specs.declared.side.Side.TheVariants as side
use Rattle.ei_linked.specs.Stored.{StoredEnd, end_in, sent_view, with_endpoint, with_got, having_sent, having_read, read_as, as_known}
use Rattle.ei_linked.specs.Asked.{asked, IsOfRow, IsTooLong}
use Rattle.ei_linked.specs.Delivered.{delivered_end, rest_of, limited_end, OverflowsAt}

-- both ends, what lies between them on the way to each, and whether what the last call did isn't stored whole
pub record WorldView : Type 0 where
  pub client : StoredEnd
  pub server : StoredEnd
  pub to_client : Piece
  pub to_server : Piece
  pub spent : Bool

-- ---- by the sides

-- whether the side sends the events
abbrev pub sends : Side → Bool
sends side.Client = false
sends side.Server = true

abbrev pub other_side : Side → Side
other_side side.Client = side.Server
other_side side.Server = side.Client

-- the end of a side
abbrev pub stored_of : Side → WorldView → StoredEnd
stored_of side.Client w = w.client
stored_of side.Server w = w.server

-- the same, as the laws of two ends see it
abbrev pub end_of : Side → WorldView → End
end_of side w = end_in (stored_of side w)

-- what waits for a side
abbrev pub waiting_for : Side → WorldView → Piece
waiting_for side.Client w = w.to_client
waiting_for side.Server w = w.to_server

-- the same two ends, but for the end of a side
abbrev pub with_end : Side → StoredEnd → WorldView → WorldView
with_end side.Client x w = record w { client = x }
with_end side.Server x w = record w { server = x }

-- but for what waits for a side
abbrev pub with_waiting : Side → Piece → WorldView → WorldView
with_waiting side.Client p w = record w { to_client = p }
with_waiting side.Server p w = record w { to_server = p }

-- a new end
abbrev pub new_stored : Bool → StoredEnd
new_stored client = record { backend = new_backend (new_table client (own_start client)); sent = []; taken = [] }

-- two new ends, and nothing between them
abbrev pub new_world : WorldView
new_world = record { client = new_stored true; server = new_stored false; to_client = no_piece; to_server = no_piece; spent = false }

-- ---- the theorem

-- What an end which sent `own` took of what the other sent (`theirs`): one by one, but for what is dropped; when; with the very
-- handles, up to where a message with a handle was dropped; and handles in their order.
pub record IsPrefix (events : Bool) (own theirs : List Sent) (taken : List Got) : Type 0 where
  pub few : length taken ≤ length theirs
  pub agrees : Agree events own (oldest (length taken) theirs) taken
  pub times : AreTimes (length own) taken
  pub equal : (a b : List Sent) (c d : List Got) → oldest (length taken) theirs ≡ a ++ b → taken ≡ c ++ d → length a ≡ length c → KeepsHandles b d → AllEqual b d
  pub handles : (rest : List Handle) × (handles_sent theirs ≡ handles_got taken ++ rest)

-- what holds of a side at any time: what it took is a prefix of what the other sent
abbrev pub Agrees : Side → WorldView → Type 0
Agrees side w = IsPrefix (sends (other_side side)) (end_of side w).sent (end_of (other_side side) w).sent (end_of side w).taken

-- The two ends are joined, unless what was last done isn't stored. What each took is a prefix of what the other sent, always.
pub record IsWorld (w : WorldView) : Type 0 where
  pub joined : w.spent ≡ false → Joined false (end_in w.client) (end_in w.server) w.to_server w.to_client
  pub server_agrees : IsPrefix false (end_in w.server).sent (end_in w.client).sent (end_in w.server).taken
  pub client_agrees : IsPrefix true (end_in w.client).sent (end_in w.server).sent (end_in w.client).taken

-- ---- a call

-- the message that a call of a side asks for, to the object of that id, interface and version
abbrev pub asked_for : Side → WorldView → ℕ → KnownInterface → ℕ → ℕ → List Stored → Record
asked_for side w id interface version opcode values = asked (stored_of side w).backend.table.next_own id interface version opcode values

-- the same, to the object
abbrev pub asked_of : Side → WorldView → ObjectView → ℕ → List Stored → Record
asked_of side w target opcode values = asked_for side w target.id (as_known target.interface) target.version opcode values

-- the object of that id which a side made or read at some time, or object 0
abbrev pub met_at : Side → WorldView → ℕ → Option New
met_at side w id = acquainted (sends side) (end_of side w).sent (end_of side w).taken id

-- A side may ask for a message to the object of that id, interface and version: it made or read that object at some time, or it
-- is object 0; there is a row of the opcode, and the values are those of its kinds.
pub record MayAsk (side : Side) (w : WorldView) (id : ℕ) (interface : KnownInterface) (version opcode : ℕ) (values : List Stored) : Type 0 where
  pub met : met_at side w id ≡ Some (record { id = id; interface = Known interface; version = version })
  pub row : IsOfRow (sends side) interface opcode values

-- a side may make the call: the target is an object of the protocol, and it may ask for that message
pub record MayCall (side : Side) (w : WorldView) (target : ObjectView) (opcode : ℕ) (values : List Stored) : Type 0 where
  pub known : target.interface ≡ Known (as_known target.interface)
  pub may : MayAsk side w target.id (as_known target.interface) target.version opcode values

-- what a message announces
abbrev pub new_by_side : Side → Record → Option New
new_by_side side m = new_of (sends side) (sent_view m)

-- there is an own id of the side, where the message needs one
abbrev pub HasOwnId : Side → Record → WorldView → Type 0
HasOwnId side m w = HasId (new_by_side side m) (stored_of side w).backend.table

-- once a side sent the message
abbrev pub called_world : Side → Record → WorldView → WorldView
called_world side m w = with_end side (having_sent (sends side) m (stored_of side w)) w

-- the object that a message announces, as the side that sent it has it
abbrev pub object_of : Side → Record → Option ObjectView
object_of side.Client m = seen_by true (new_by_side side.Client m)
object_of side.Server m = seen_by false (new_by_side side.Server m)

-- what a call of a side that asks for the message answered, and what it did
abbrev pub Calls : Side → Record → Result (Option ObjectView) SendError → WorldView → WorldView → Type 0
Calls side m (Ok o) old new = HasOwnId side m old × (IsTooLong m → ⊥) × (new ≡ called_world side m old) × (o ≡ object_of side m)
Calls side m (Err send_error.IdsExhausted) old new = (HasOwnId side m old → ⊥) × (new ≡ old)
Calls side m (Err send_error.MessageTooLong) old new = HasOwnId side m old × IsTooLong m × (new ≡ old)
Calls side m (Err send_error.NoMemory) old new = new ≡ old

-- the same of a call to the object
abbrev pub CallsTo : Side → ObjectView → ℕ → List Stored → Result (Option ObjectView) SendError → WorldView → WorldView → Type 0
CallsTo side target opcode values result old new = Calls side (asked_of side old target opcode values) result old new

-- ---- a flush, a delivery, a read

-- the end without what waited to be sent
abbrev pub flushed_end : StoredEnd → StoredEnd
flushed_end x = with_endpoint (with_unsent nothing x.backend) x

-- once a side sent all that waited with it
abbrev pub flushed_world : Side → WorldView → WorldView
flushed_world side w = with_end side (flushed_end (stored_of side w))
    (with_waiting (other_side side) (behind (waiting_for (other_side side) w) (unsent_of (stored_of side w).backend)) w)

-- a side has sent at most as many handles as may be unread
abbrev pub HasSentFewHandles : Side → WorldView → Type 0
HasSentFewHandles side w = length (handles_sent (end_of side w).sent) ≤ MOST_UNREAD_HANDLES

-- with the handles of a delivery of so many bytes more would be unread at a side than may be
abbrev pub TooManyHandles : Side → ℕ → WorldView → Type 0
TooManyHandles side n w = OverflowsAt n (waiting_for side w).bytes (waiting_for side w) (stored_of side w).backend

-- once so many bytes of what waits for a side were delivered
abbrev pub delivered_world : Side → ℕ → WorldView → WorldView
delivered_world side n w = with_end side (delivered_end n (waiting_for side w).bytes (waiting_for side w) (stored_of side w))
    (with_waiting side (rest_of n (waiting_for side w).bytes (waiting_for side w)) w)

-- once a delivery closed a side
abbrev pub limited_world : Side → ℕ → WorldView → WorldView
limited_world side n w = with_end side (limited_end (stored_of side w)) (with_waiting side (left_over n (waiting_for side w)) w)

-- what a delivery of so many bytes to a side answered, and what it did
abbrev pub DeliversAt : Side → ℕ → Result ℕ ReadError → WorldView → WorldView → Type 0
DeliversAt side n (Ok k) old new = ((stored_of side old).backend.closed ≡ false) × (k ≡ min n (length (waiting_for side old).bytes))
    × (TooManyHandles side n old → ⊥) × (new ≡ delivered_world side n old)
DeliversAt side n (Err read_error.UnexpectedEof) old new = ((stored_of side old).backend.closed ≡ true) × (new ≡ old)
DeliversAt side n (Err read_error.HandleLimit) old new = ((stored_of side old).backend.closed ≡ false) × TooManyHandles side n old × (new ≡ limited_world side n old)
DeliversAt side n (Err read_error.NoMemory) old new = ((stored_of side old).backend.closed ≡ false) × (new ≡ old)
DeliversAt side n (Err read_error.ReadFault) old new = ⊥

-- once a side took its next message
abbrev pub read_world : Side → WorldView → WorldView
read_world side w = with_end side (having_read (sends (other_side side)) (stored_of side w)) w

-- all that the other side sent is unread at this one, which is open: nothing waits with the sender or lies between them
abbrev pub AllDeliveredAt : Side → WorldView → Type 0
AllDeliveredAt side w = AllDelivered (end_of (other_side side) w) (end_of side w) (waiting_for side w)

-- a side has taken as many messages as the other sent
abbrev pub HasTakenAll : Side → WorldView → Type 0
HasTakenAll side w = length (end_of side w).taken ≡ length (end_of (other_side side) w).sent

-- once a side took its next message and no memory was left to store it: nothing else has changed
abbrev pub spent_world : Side → WorldView → WorldView
spent_world side w = with_end side (with_endpoint (next (sends (other_side side)) (stored_of side w).backend).1 (stored_of side w)) (record w { spent = true })

-- ---- what a read answers

-- a message that is read is one of its row, to an object of the protocol
pub record IsRead (events : Bool) (target : ObjectView) (opcode : ℕ) (values : List Value) : Type 0 where
  pub known : target.interface ≡ Known (as_known target.interface)
  pub row : Row
  pub is_row : row_at opcode (table events (as_known target.interface)) ≡ Some row
  pub kinds : AreOf row.kinds values

-- so is each that the end reads next
abbrev pub ReadsRows : Bool → StoredEnd → Type 0
ReadsRows events x = (target : ObjectView) (opcode : ℕ) (values : List Value) (b : BackendView) → next events x.backend ≡ (Message target opcode values, b) → IsRead events target opcode values

-- what was answered is what the endpoint reads next, and it is stored
abbrev pub StoresAnswer : {M : Type 0} → (M → ObjectView) → (M → ℕ) → (M → List Value) → Bool → Option (PendingRequestResult M) → StoredEnd → StoredEnd → Type 0
StoresAnswer target code values events None old new = (next events old.backend ≡ (Waits, new.backend)) × (new ≡ with_endpoint new.backend old)
StoresAnswer target code values events (Some (pending.Request m)) old new = (next events old.backend ≡ (Message (target m) (code m) (values m), new.backend))
    × (new ≡ with_got new.backend (got.Message (read_as events (target m) (code m) (values m)) (length old.sent)) old)
StoresAnswer target code values events (Some (pending.InvalidObject id)) old new = (next events old.backend ≡ (Gone id, new.backend))
    × (new ≡ with_got new.backend (got.InvalidObject id (length old.sent)) old)
StoresAnswer target code values events (Some (pending.ParseError e)) old new = IfSome (fault_of e) (λ f. next events old.backend ≡ (Refused f, new.backend))
    × IsSome (fault_of e) × (new ≡ with_endpoint new.backend old)

-- an answer that isn't that of a refused message
abbrev pub NotRefused : {M : Type 0} → Option (PendingRequestResult M) → Type 0
NotRefused (Some (pending.ParseError e)) = ⊥
NotRefused answer = Unit {0}
