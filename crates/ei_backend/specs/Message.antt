-- What a message is read as, with the first refusal.
use Rattle.std.specs.Prelude.{◌≡◌, ◌||◌, ℕ, Bool, true, false, List, [], Option, Some, None, Result, Ok, Err}
use Rattle.std.specs.List.{list_any}
use Rattle.ei_spec.specs.Value.{Kind, Text, Nullable, Value}
use Rattle.ei_spec.specs.Reading.{Fault, InvalidOpcode, InvalidInterface, Unread, ArgumentStop, ◌then◌, stopping, all_at}
use Rattle.ei_spec.specs.Interface.{Interface, Known, Other, ObjectView, short_of, named}
use Rattle.ei_spec.specs.Rows.{Row, Announces, Nothing, Fixed, Named, row_at, new_id, version_of, name_in}
use Rattle.ei_spec.specs.declared.interface.KnownInterface.{KnownInterface}
use Rattle.ei_spec.specs.Table.{table}
use Rattle.ei_wire.specs.declared.error.ParseError.{ParseError}
use Rattle.ei_wire.specs.Rows.{ReadsArguments}
use Rattle.ei_spec.specs.Message.{Front, Whole}
use Rattle.ei_backend.specs.Table.{TableView, accept, found}

-- the table that an announcement leaves
abbrev pub with_new : Result (ObjectView × TableView) Fault → Result TableView Fault
with_new (Ok x) = Ok x.1
with_new (Err f) = Err f

-- the table with what the arguments of these kinds announce
abbrev pub announce : Announces → List Kind → List Value → TableView → Result TableView Fault
announce Nothing kinds values t = Ok t
announce (Fixed k) kinds values t = with_new (accept t (new_id kinds values) (Known k) (version_of values))
announce Named kinds values t = with_new (accept t (new_id kinds values) (named (name_in values)) (version_of values))

-- the arguments of a message, the table after it, and what is left of it
pub record Parsed : Type 0 where
  pub values : List Value
  pub table : TableView
  pub unread : Unread

-- a message of the row: its arguments are read, and then its object is announced
abbrev pub row_read : Row → Unread → TableView → Result Parsed ArgumentStop
row_read r s t = all_at r.kinds s then λ x. stopping x.1.taken (announce r.announces r.kinds x.0 t) then λ u. Ok (record { values = x.0; table = u; unread = x.1 })

-- the same where an interface may have no such row
abbrev pub some_row : Option Row → List ℕ → ℕ → Unread → TableView → Result Parsed ArgumentStop
some_row (Some r) short opcode s t = row_read r s t
some_row None short opcode s t = Err (InvalidOpcode short opcode, s.taken)

-- a message of the opcode to an object of the interface
abbrev pub message_read : Bool → Interface → ℕ → Unread → TableView → Result Parsed ArgumentStop
message_read events (Known k) opcode s t = some_row (row_at opcode (table events k)) (short_of k) opcode s t
message_read events (Other name) opcode s t = Err (InvalidInterface name, s.taken)

-- What reading a message of the opcode to an object of the interface returned, with what is left of the message and the
-- table, before and after: the message's values, or the first refusal, unless memory ran out.
abbrev pub ReadsRow : {M : Type 0} → (M → List Value) → Bool → KnownInterface → ℕ → Unread → Unread → TableView → TableView → Result M ParseError → Type 0
ReadsRow values events interface opcode old new told tnew result = ReadsArguments (λ m. record { values = values m; table = tnew; unread = new }) new.taken result (message_read events (Known interface) opcode old told)

-- a message of the opcode to an object of the interface is read as these values, announces nothing, and leaves no byte
pub record ReadsWhole (events : Bool) (interface : Interface) (opcode : ℕ) (values : List Value) (old new : Unread) : Type 0 where
  pub read : (t : TableView) → message_read events interface opcode old t ≡ Ok (record { values = values; table = t; unread = new })
  pub whole : new.bytes ≡ []

-- ---- what takes memory

-- whether an argument of the kind is a text
abbrev pub is_text : Kind → Bool
is_text Text = true
is_text Nullable = true
is_text k = false

-- whether an object is announced
abbrev pub is_announced : Announces → Bool
is_announced Nothing = false
is_announced what = true

-- whether reading a message of the row may take memory: it announces an object, or has a text
abbrev pub row_wants : Option Row → Bool
row_wants None = false
row_wants (Some r) = is_announced r.announces || list_any is_text r.kinds

-- whether reading a message of the opcode to an object of the interface may: so may a refusal that tells a name that isn't known
abbrev pub message_wants : Bool → Interface → ℕ → Bool
message_wants events (Known k) opcode = row_wants (row_at opcode (table events k))
message_wants events (Other name) opcode = true

-- whether reading a message of the opcode to what is there may
abbrev pub target_wants : Bool → Option ObjectView → ℕ → Bool
target_wants events None opcode = false
target_wants events (Some target) opcode = message_wants events target.interface opcode

-- whether reading the message at the front may: it is whole, and to an object of the table
abbrev pub front_wants : Bool → TableView → Front → Bool
front_wants events t (Whole m rest) = target_wants events (found t m.id) m.opcode
front_wants events t f = false
