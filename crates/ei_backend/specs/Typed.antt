-- A message that one end sent as a row of the table of messages, and the other end, which reads it.
use Rattle.std.specs.Prelude.{◌≡◌, ℕ, ◌<◌, ◌≤◌, ◌^◌, Bool, true, not, List, ◌++◌, Option, Some, None, IfSome}
use Rattle.std.specs.List.{flat_map, list_any}
use Rattle.ei_spec.specs.declared.interface.KnownInterface.{KnownInterface}
use Rattle.ei_spec.specs.Value.{Kind, Value, handles_of}
use Rattle.ei_spec.specs.Interface.{Known, ObjectView, named}
use Rattle.ei_spec.specs.Rows.{Row, Announces, Nothing, Fixed, Named, row_named, new_id, version_of, name_in}
use Rattle.ei_spec.specs.Table.{table}
use Rattle.ei_spec.specs.Message.{message, bytes_of}
use Rattle.ei_spec.specs.Piece.{Piece}
use Rattle.ei_backend.specs.Table.{Announced, found, own_end}
use Rattle.ei_backend.specs.Message.{is_text}
use Rattle.ei_backend.specs.Backend.{BackendView, Message, next, after_row, unsent_of}
use Rattle.ei_backend.specs.Step.{reading}
use Rattle.ei_backend.specs.Sends.{AreOfRow, IsNew, row_size}
use Rattle.ei_backend.specs.declared.message.PendingRequestResult.{PendingRequestResult}
use Rattle.ei_backend.specs.declared.message.PendingRequestResult.TheVariants as pending
use Rattle.ei_spec.specs.declared.limits.TheConstants.{MOST_MESSAGE_BYTES}

-- the bytes and the handles of a message to the object of that id
abbrev pub piece_of : ℕ → ℕ → List Value → Piece
piece_of id opcode values = record { bytes = bytes_of (message id opcode values); handles = flat_map handles_of values }

-- one piece behind another
abbrev pub behind : Piece → Piece → Piece
behind before p = record { bytes = before.bytes ++ p.bytes; handles = before.handles ++ p.handles }

-- the object that values of these kinds announce, as an end of that side sees it
abbrev pub new_object : Announces → List Kind → List Value → Bool → Option ObjectView
new_object Nothing kinds values client = None
new_object (Fixed k) kinds values client = Some (record { id = new_id kinds values; interface = Known k; version = version_of values; client_side = client })
new_object Named kinds values client =
    Some (record { id = new_id kinds values; interface = named (name_in values); version = version_of values; client_side = client })

-- the same of a message of a row
abbrev pub new_of : Row → List Value → Bool → Option ObjectView
new_of r values client = new_object r.announces r.kinds values client

-- What an end knows that sent a message of the row of that name to a target: what the clause of the call says, that a
-- message with a text isn't too long, and that a new id in it is the end's next one, of which one was left.
pub record HasSent (events : Bool) (interface : KnownInterface) (name : List ℕ) (r : ℕ × Row) (target : ObjectView) (values : List Value) (before after : BackendView) : Type 0 where
  pub row : row_named name (table events interface) ≡ Some r
  pub id : target.id < 2 ^ 64
  pub kinds : AreOfRow (row_named name (table events interface)) values
  pub short : list_any is_text r.1.kinds ≡ true → row_size (row_named name (table events interface)) target values ≤ MOST_MESSAGE_BYTES
  pub sent : after ≡ after_row (row_named name (table events interface)) target values before
  pub new : IfSome (new_of r.1 values before.table.client) (λ o. (o.id ≡ before.table.next_own) × (o.id < own_end before.table))

-- What the other end must have to read it: at the front of what is unread what the send added, with the rest behind it;
-- under the target's id an object of that interface; and no larger id heard of than a new one.
pub record HasCome (interface : KnownInterface) (r : ℕ × Row) (target there : ObjectView) (values : List Value) (added rest : Piece) (before after reader : BackendView) : Type 0 where
  pub side : reader.table.client ≡ not before.table.client
  pub adds : unsent_of after ≡ behind (unsent_of before) added
  pub bytes : reader.unread ≡ added.bytes ++ rest.bytes
  pub handles : reader.handles ≡ added.handles ++ rest.handles
  pub live : found reader.table target.id ≡ Some there
  pub is_one : there.interface ≡ Known interface
  pub fresh : IfSome (new_of r.1 values reader.table.client) (λ o. reader.table.next_peer ≤ o.id)

-- It is read as it was sent: to that object, with that opcode and those values. What the send added is taken, and no more;
-- the object that it announces is in the table as this end sees it, and nothing else changes. It is the very object that the
-- sender made, seen from the other side.
pub record IsRead (events : Bool) (r : ℕ × Row) (there : ObjectView) (values : List Value) (rest : Piece) (before reader left : BackendView) : Type 0 where
  pub answer : next events reader ≡ (Message there r.0 values, left)
  pub is : left ≡ reading rest.bytes rest.handles left.table reader
  pub announced : Announced (new_of r.1 values reader.table.client) reader.table left.table
  pub known : IfSome (new_of r.1 values reader.table.client) (λ o. found left.table o.id ≡ Some o)
  pub same : (o : ObjectView) → IsNew (Some r) values before.table o → found left.table o.id ≡ Some (record o { client_side = reader.table.client })

-- the answer is a message: to that object, of that opcode, with those values, and announcing that object
abbrev pub HandsOut : {M : Type 0} → (M → ObjectView) → (M → ℕ) → (M → List Value) → (M → Option ObjectView) → ObjectView → ℕ → List Value → Option ObjectView → Option (PendingRequestResult M) → Type 0
HandsOut target code values announced there opcode said new (Some (pending.Request m)) = (target m ≡ there) × (code m ≡ opcode) × (values m ≡ said) × (announced m ≡ new)
HandsOut target code values announced there opcode said new answer = ⊥
