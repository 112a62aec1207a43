-- One endpoint, the message at the front of what it has not read, and the messages that it sends.
use Rattle.std.specs.Prelude.{◌≡◌, ℕ, ◌+◌, ◌<◌, ◌≤◌, Bool, true, false, List, [], ◌++◌, length}
use Rattle.std.specs.Prelude.{drop, Option, Some, None, Result, Ok, Err, IfSome, IsSome, IsErrOf, ◌==◌, if◌then◌else◌}
use Rattle.std.specs.List.{flat_map}
use Rattle.ei_spec.specs.declared.handle.Handle.{Handle}
use Rattle.ei_spec.specs.Piece.{Piece}
use Rattle.ei_spec.specs.Value.{Value, handles_of}
use Rattle.ei_spec.specs.Reading.{Fault, HeaderLength, MessageLength, ArgumentStop}
use Rattle.ei_spec.specs.Interface.{Interface, Known, ObjectView, named}
use Rattle.ei_spec.specs.Rows.{Row, Announces, Nothing, Fixed, Named, version_of, name_in}
use Rattle.ei_spec.specs.Message.{Raw, message, bytes_of, Front, Short, Unlawful, Whole, front}
use Rattle.ei_wire.specs.declared.error.ParseError.{ParseError}
use Rattle.ei_wire.specs.declared.error.ParseError.TheVariants as error
use Rattle.ei_wire.specs.declared.error.ReadError.{ReadError}
use Rattle.ei_wire.specs.declared.error.ReadError.TheVariants as read_error
use Rattle.ei_wire.specs.Gives.{fault_of}
use Rattle.ei_backend.specs.Table.{TableView, Announced, found, without, with_own}
use Rattle.ei_backend.specs.Table as table
use Rattle.ei_backend.specs.Ring.{first_capacity, grown}
use Rattle.ei_backend.specs.Outgoing.{Room, no_room, more_room, HasRoomFor}
use Rattle.ei_backend.specs.Outside.{SourceView}
use Rattle.ei_backend.specs.Lent.{LentSource}
use Rattle.ei_backend.specs.Incoming.{Hands, HasNone, Keeps, Fits, Overflows}
use Rattle.ei_spec.specs.declared.limits.TheConstants.{MOST_PIECE_BYTES}
use Rattle.ei_backend.specs.Message.{Parsed, message_read}
use Rattle.ei_backend.specs.declared.message.PendingRequestResult.{PendingRequestResult}
use Rattle.ei_backend.specs.declared.message.PendingRequestResult.TheVariants as pending

-- an endpoint: its objects, what came and isn't read, what waits to be sent, and whether it is closed; the
-- bytes that the ring of unread ones holds, and how much may wait to be sent without want of memory
pub record BackendView : Type 0 where
  pub table : TableView
  pub unread : List ℕ
  pub handles : List Handle
  pub unsent : List ℕ
  pub unsent_handles : List Handle
  pub closed : Bool
  pub capacity : ℕ
  pub room : Room

-- an endpoint over these objects, with empty buffers
abbrev pub new_backend : TableView → BackendView
new_backend table = record { table = table; unread = []; handles = []; unsent = []; unsent_handles = []; closed = false; capacity = first_capacity; room = no_room }

-- ---- reading

-- the endpoint with room in its ring for one more piece
abbrev pub with_ring : BackendView → BackendView
with_ring b = record b { capacity = grown (length b.unread) b.capacity }

-- the endpoint with one more piece behind what is unread
abbrev pub with_piece : Piece → BackendView → BackendView
with_piece piece b = record b { unread = b.unread ++ piece.bytes; handles = b.handles ++ piece.handles; capacity = grown (length b.unread) b.capacity }

-- the endpoint closed
abbrev pub closed_of : BackendView → BackendView
closed_of b = record b { closed = true }

-- what reading a piece did to an open endpoint, and what the source said of it
abbrev pub ReadsOn : SourceView → SourceView → Result ℕ ReadError → BackendView → BackendView → Type 0
ReadsOn before after (Ok n) old new = (piece : Piece) × Hands before piece after × Fits n old.handles piece × (new ≡ with_piece piece old)
ReadsOn before after (Err read_error.HandleLimit) old new = (piece : Piece) × Hands before piece after × Overflows old.handles piece × (new ≡ closed_of (with_ring old))
ReadsOn before after (Err read_error.UnexpectedEof) old new = HasNone before after × (new ≡ with_ring old)
ReadsOn before after (Err read_error.ReadFault) old new = Keeps before after × (new ≡ with_ring old)
ReadsOn before after (Err read_error.NoMemory) old new = Keeps before after × (new ≡ old)

-- What a call for one piece does. A closed endpoint doesn't ask the source, nor does want of memory, which comes only where the ring
-- has to grow.
pub record Reads {S : Type 0} (view : S → SourceView) (later : S → S → Type 0) (result : Result ℕ ReadError) (old new : BackendView) (before after : S) : Type 0 where
  pub closed : old.closed ≡ true → IsErrOf result read_error.UnexpectedEof × (new ≡ old) × (after ≡ before)
  pub reads : old.closed ≡ false → ReadsOn (view before) (view after) result old new
  pub memory : IsErrOf result read_error.NoMemory → after ≡ before
  pub room : length old.unread + MOST_PIECE_BYTES ≤ old.capacity → IsErrOf result read_error.NoMemory → ⊥
  pub lent : LentSource view later (IsErrOf result read_error.ReadFault) ((old.closed ≡ false) × IsErrOf result read_error.UnexpectedEof) before after

-- ---- the message at the front

-- what reading the whole body says, the table after it, and how many handles it took
pub record BodyOutcome : Type 0 where
  pub said : Result (List Value) Fault
  pub table : TableView
  pub taken : ℕ

-- a message of this size is refused where its arguments leave bytes over
abbrev pub outcome : ℕ → TableView → Result Parsed ArgumentStop → BodyOutcome
outcome len t (Err f) = record { said = Err f.0; table = t; taken = f.1 }
outcome len t (Ok x) = record {
  said = if length x.unread.bytes == 0 then Ok x.values else Err (MessageLength (len + length x.unread.bytes) len);
  table = x.table;
  taken = x.unread.taken;
}

-- what a message of the opcode and with the body says to its target
abbrev pub body_read : Bool → ObjectView → ℕ → List ℕ → List Handle → TableView → BodyOutcome
body_read events target opcode body handles t = outcome (16 + length body) t (message_read events target.interface opcode (record { bytes = body; handles = handles; taken = 0 }) t)

-- what a call for the next message answers
pub data FrontAnswer : Type 0 where
  Waits : FrontAnswer
  Refused : Fault → FrontAnswer
  -- no object has the id
  Gone : ℕ → FrontAnswer
  Message : (target : ObjectView) → (opcode : ℕ) → (values : List Value) → FrontAnswer

abbrev pub said_of : ObjectView → ℕ → Result (List Value) Fault → FrontAnswer
said_of target opcode (Ok values) = Message target opcode values
said_of target opcode (Err f) = Refused f

-- the message is taken out, with the handles that it took
abbrev pub of_outcome : BackendView → ObjectView → ℕ → List ℕ → BodyOutcome → FrontAnswer × BackendView
of_outcome b target opcode rest o = (said_of target opcode o.said, record b { table = o.table; unread = rest; handles = drop o.taken b.handles })

abbrev pub of_target : Bool → BackendView → Option ObjectView → Raw → List ℕ → FrontAnswer × BackendView
of_target events b None m rest = (Gone m.id, record b { unread = rest })
of_target events b (Some target) m rest = of_outcome b target m.opcode rest (body_read events target m.opcode m.body b.handles b.table)

abbrev pub of_front : Bool → BackendView → Front → FrontAnswer × BackendView
of_front events b Short = (Waits, b)
of_front events b (Unlawful n) = (Refused (HeaderLength n), b)
of_front events b (Whole m rest) = of_target events b (found b.table m.id) m rest

-- the answer to a call for the next message, and the endpoint after it
abbrev pub next : Bool → BackendView → FrontAnswer × BackendView
next events b = of_front events b (front b.unread)

-- what reading a body answered is what the outcome says
abbrev pub Says : {M : Type 0} → (M → ObjectView) → (M → ℕ) → (M → List Value) → ObjectView → ℕ → Result M ParseError → TableView → ℕ → BodyOutcome → Type 0
Says target code values object opcode (Ok m) table taken o = (o ≡ record { said = Ok (values m); table = table; taken = taken }) × (target m ≡ object) × (code m ≡ opcode)
Says target code values object opcode (Err e) table taken o = IfSome (fault_of e) (λ f. o ≡ record { said = Err f; table = table; taken = taken })

-- what a call for the next message answered, and the endpoint after it
abbrev pub Answers : {M : Type 0} → (M → ObjectView) → (M → ℕ) → (M → List Value) → Option (PendingRequestResult M) → BackendView → FrontAnswer × BackendView → Type 0
Answers target code values None b want = want ≡ (Waits, b)
Answers target code values (Some (pending.Request m)) b want = want ≡ (Message (target m) (code m) (values m), b)
Answers target code values (Some (pending.ParseError e)) b want = IfSome (fault_of e) (λ f. want ≡ (Refused f, b)) × IsSome (fault_of e)
Answers target code values (Some (pending.InvalidObject id)) b want = want ≡ (Gone id, b)

-- What a call for the next message did to the table: it has the object that the message announces, exactly as it was
-- accepted. Without a message or a target it is as before. What a refused message leaves, `next` says.
abbrev pub Brings : {M : Type 0} → (M → Option ObjectView) → Option (PendingRequestResult M) → TableView → TableView → Type 0
Brings announced None old new = new ≡ old
Brings announced (Some (pending.Request m)) old new = Announced (announced m) old new
Brings announced (Some (pending.ParseError e)) old new = Unit {0}
Brings announced (Some (pending.InvalidObject id)) old new = new ≡ old

-- an answer took a message out, unless there was none or its length is unlawful
abbrev pub Shortens : {M : Type 0} → List ℕ → List ℕ → Option (PendingRequestResult M) → Type 0
Shortens old new None = Unit {0}
Shortens old new (Some (pending.ParseError (error.HeaderLength n))) = Unit {0}
Shortens old new (Some answer) = length new < length old

-- ---- sending

-- the endpoint with one more message buffered
abbrev pub sent : BackendView → ℕ → ℕ → List Value → BackendView
sent b id opcode values = record b { unsent = b.unsent ++ bytes_of (message id opcode values); unsent_handles = b.unsent_handles ++ flat_map handles_of values }

-- the endpoint with the object out of its table
abbrev pub removed : BackendView → ℕ → BackendView
removed b id = record b { table = without b.table id }

-- the endpoint with the next object of this end in its table
abbrev pub with_object : BackendView → Interface → ℕ → BackendView
with_object b interface version = record b { table = with_own b.table interface version }

-- the endpoint with one more message buffered, and the object that it announces in the table
abbrev pub sent_new : BackendView → ℕ → ℕ → List Value → Interface → ℕ → BackendView
sent_new b id opcode values interface version = with_object (sent b id opcode values) interface version

-- the endpoint with the object in its table that a row announces with these values, if it announces one
abbrev pub with_announced : Announces → List Value → BackendView → BackendView
with_announced Nothing values b = b
with_announced (Fixed k) values b = with_object b (Known k) (version_of values)
with_announced Named values b = with_object b (named (name_in values)) (version_of values)

-- the endpoint without the target, where a row destroys it
abbrev pub without_target : Row → ObjectView → BackendView → BackendView
without_target r target b = if r.destroys then removed b target.id else b

-- the endpoint after a row was sent to a target: the message waits, the object that it announces is there, and a
-- target that it destroys is not
abbrev pub after_row : Option (ℕ × Row) → ObjectView → List Value → BackendView → BackendView
after_row None target values b = b
after_row (Some r) target values b = without_target r.1 target (with_announced r.1.announces values (sent b target.id r.0 values))

-- ---- flushing

-- what waits to be sent
abbrev pub unsent_of : BackendView → Piece
unsent_of b = record { bytes = b.unsent; handles = b.unsent_handles }

-- the endpoint with this to be sent
abbrev pub with_unsent : Piece → BackendView → BackendView
with_unsent waiting b = record b { unsent = waiting.bytes; unsent_handles = waiting.handles }

-- ---- room

-- the endpoint in which so many more bytes, handles and own objects take no memory
abbrev pub with_room : ℕ → ℕ → ℕ → BackendView → BackendView
with_room bytes handles objects b = record b { table = table.with_places objects b.table; room = more_room bytes handles (unsent_of b) b.room }

-- there is room for a message of that row to that target
abbrev pub FitsRow : Option (ℕ × Row) → ObjectView → List Value → BackendView → Type 0
FitsRow None target values b = ⊥
FitsRow (Some r) target values b = HasRoomFor target.id r.0 values (unsent_of b) b.room
