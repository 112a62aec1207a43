-- The message at the front of what a server has not read, as asking for it tells it.
use Rattle.std.specs.Prelude.{◌≡◌, ◌⊎◌, ◌==◌, ℕ, Bool, true, false, List, [], ◌∷◌, Option, Some, None}
use Rattle.ei_spec.specs.declared.handle.Handle.{Handle}
use Rattle.ei_spec.specs.declared.interface.KnownInterface.{KnownInterface}
use Rattle.ei_spec.specs.declared.interface.KnownInterface.TheVariants as known
use Rattle.ei_spec.specs.Value.{Value}
use Rattle.ei_spec.specs.Reading.{Fault, HeaderLength}
use Rattle.ei_spec.specs.Rows.{Row, row_at}
use Rattle.ei_spec.specs.Table.{table}
use Rattle.ei_spec.specs.Interface.{Known, ObjectView}
use Rattle.ei_spec.specs.Message.{Raw, Short, Unlawful, Whole, front}
use Rattle.ei_backend.specs.Table.{TableView, Announced, found}
use Rattle.ei_backend.specs.Backend.{BackendView}
use Rattle.ei_backend.specs.declared.message.PendingRequestResult.{PendingRequestResult}
use Rattle.ei_backend.specs.declared.message.PendingRequestResult.TheVariants as pending
use Rattle.ei_wire.specs.Gives.{fault_of}
use Rattle.ei_server.specs.declared.request.Request.{Request}
use Rattle.ei_server.specs.Request.{target_of, opcode_of, values_of, announced_of}
use Rattle.ei_session.specs.Setup.{Setup}
use Rattle.ei_session.specs.Arguments.{request_args}
use Rattle.ei_session.specs.Asked.{first}
use Rattle.ei_session.specs.Objects.{Entry, object}
use Rattle.ei_request.specs.Converter.{ConverterView}
use Rattle.ei_standing.specs.Standing.{object_of, with_table}
use Rattle.ei_serve.specs.Standing.{IsConnected}
use Rattle.ei_session.specs.Refusals.{Refusal, Parse, Arguments, arguments, no_row, stuck, left_over}

-- each object of the table is of a known interface
abbrev pub AllKnown : TableView → Type 0
AllKnown t = (id : ℕ) (target : ObjectView) → found t id ≡ Some target → (interface : KnownInterface) × (target.interface ≡ Known interface)

-- whether the request is `sync`, the one that announces an object
abbrev pub is_sync : KnownInterface → ℕ → Bool
is_sync known.Connection opcode = opcode == 0
is_sync interface opcode = false

-- the message at the front is this request, and it was taken out
pub record TakesOut (b : BackendView) (target : ObjectView) (opcode : ℕ) (values : List Value) (new : BackendView) : Type 0 where
  pub m : Raw
  pub rest : List ℕ
  pub interface : KnownInterface
  pub front_is : front b.unread ≡ Whole m rest
  pub target_is : found b.table m.id ≡ Some target
  pub interface_is : target.interface ≡ Known interface
  pub opcode_is : opcode ≡ m.opcode
  pub args : is_sync interface m.opcode ≡ false → request_args interface m ≡ Some values
  pub after : is_sync interface m.opcode ≡ false → new ≡ record b { unread = rest }

-- no object has the id of the message at the front, and it was taken out
pub record IsGone (b : BackendView) (id : ℕ) (new : BackendView) : Type 0 where
  pub m : Raw
  pub rest : List ℕ
  pub front_is : front b.unread ≡ Whole m rest
  pub none : found b.table m.id ≡ None
  pub id_is : id ≡ m.id
  pub after : new ≡ record b { unread = rest }

-- why a message that announces nothing can't be read by its row: the first that applies
abbrev pub bytes_refused_by : KnownInterface → Raw → Option Row → Arguments → Option Refusal
bytes_refused_by interface m row arguments = first (no_row interface m row ∷ stuck arguments ∷ left_over m arguments ∷ [])

abbrev pub bytes_refused : KnownInterface → Raw → Option Refusal
bytes_refused interface m = bytes_refused_by interface m (row_at m.opcode (table false interface)) (arguments (row_at m.opcode (table false interface)) m)

-- the message at the front is to an object, and it can't be read, or is a `sync`
pub record Unreadable (b : BackendView) (fault : Fault) : Type 0 where
  pub m : Raw
  pub rest : List ℕ
  pub target : ObjectView
  pub interface : KnownInterface
  pub front_is : front b.unread ≡ Whole m rest
  pub target_is : found b.table m.id ≡ Some target
  pub interface_is : target.interface ≡ Known interface
  pub unread : (request_args interface m ≡ None) ⊎ (is_sync interface m.opcode ≡ true)
  pub why : is_sync interface m.opcode ≡ false → bytes_refused interface m ≡ Some (Parse fault)

-- what a fault says of the front
abbrev pub SaysWhy : BackendView → Option Fault → Type 0
SaysWhy b None = ⊥
SaysWhy b (Some (HeaderLength n)) = front b.unread ≡ Unlawful n
SaysWhy b (Some fault) = Unreadable b fault

-- what the answer to a call for the next message says of the front
abbrev pub SaysOfFront : BackendView → Option (PendingRequestResult Request) → BackendView → Type 0
SaysOfFront b None new = (front b.unread ≡ Short) × (new ≡ b)
SaysOfFront b (Some (pending.Request r)) new = TakesOut b (target_of r) (opcode_of r) (values_of r) new
SaysOfFront b (Some (pending.ParseError e)) new = SaysWhy b (fault_of e)
SaysOfFront b (Some (pending.InvalidObject id)) new = IsGone b id new

-- ---- on a connection

-- A request stands at the front: it is this message, to an object that is there. It was taken out of a converter that
-- stands for the messages before it, and the table has the object that it announces.
pub record IsAsked (setup : Setup) (past : List Raw) (times rest : List ℕ) (handles : List Handle) (r : Request) (c : ConverterView) : Type 0 where
  pub m : Raw
  pub after : List ℕ
  pub e : Entry
  pub front_is : front rest ≡ Whole m after
  pub there : object past m.id ≡ Some e
  pub target : target_of r ≡ object_of m.id e
  pub opcode : m.opcode ≡ opcode_of r
  pub args : request_args e.interface m ≡ Some (values_of r)
  pub stood : ConverterView
  pub stands : IsConnected setup past times after handles stood
  pub table : TableView
  pub announced : Announced (announced_of r) stood.handle.ctx.table table
  pub now : c ≡ with_table stood table
