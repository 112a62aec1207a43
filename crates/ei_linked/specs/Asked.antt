-- A message that a call asks for, and the object that a message announces.
use Rattle.std.specs.Prelude.{◌≡◌, ℕ, ◌<◌, ◌^◌, Bool, true, List, Option, Some, None, Result, Ok, Err}
use Rattle.std.specs.List.{flat_map}
use Rattle.ei_spec.specs.declared.interface.KnownInterface.{KnownInterface}
use Rattle.ei_spec.specs.declared.limits.TheConstants.{MOST_MESSAGE_BYTES}
use Rattle.ei_spec.specs.Arguments.{AreOf}
use Rattle.ei_spec.specs.Interface.{Known, ObjectView}
use Rattle.ei_spec.specs.Message.{size}
use Rattle.ei_spec.specs.Rows.{Row, row_at}
use Rattle.ei_spec.specs.Table.{table}
use Rattle.ei_backend.specs.Announcement.{known_in}
use Rattle.ei_wire.specs.declared.error.SendError.{SendError}
use Rattle.ei_wire.specs.declared.error.SendError.TheVariants as send_error
use Rattle.ei_ends.specs.Sent.{New, Sent, new_of, row_of, raw_of}
use Rattle.ei_ends.specs.Way.{HasNextId, seen_by}
use Rattle.ei_ends.specs.Steps.{HasId}
use Rattle.ei_values.specs.declared.value.Value.{Value}
use Rattle.ei_values.specs.Stored.{fits_row, fills}
use Rattle.ei_linked.specs.declared.record.Record.{Record}
use Rattle.ei_linked.specs.declared.record.Announced.{Announced}
use Rattle.ei_linked.specs.declared.record.Target.{Target}
use Rattle.ei_linked.specs.Stored.{StoredEnd, sent_view, having_sent}

-- the message to the object of that id, interface and version, where the next own id is this
abbrev pub asked : ℕ → ℕ → KnownInterface → ℕ → ℕ → List Value → Record
asked next id interface version opcode values = record {
  target = id;
  interface = interface;
  version = version;
  opcode = opcode;
  values = flat_map (fills next) values;
}

-- there is a row of the opcode, and the values are those of its kinds
pub record IsOfRow (events : Bool) (interface : KnownInterface) (opcode : ℕ) (values : List Value) : Type 0 where
  pub row : Row
  pub is_row : row_at opcode (table events interface) ≡ Some row
  pub fit : fits_row row.announces row.kinds values ≡ true

-- what is announced has the next own id, and an interface of the protocol
abbrev pub IsNext : ℕ → Option New → Type 0
IsNext next None = Unit {0}
IsNext next (Some n) = (n.id ≡ next) × ((k : KnownInterface) × (n.interface ≡ Known k))

-- the message is longer than a message may be
abbrev pub IsTooLong : Record → Type 0
IsTooLong m = MOST_MESSAGE_BYTES < size (raw_of (sent_view m))

-- what an end answered that was asked for the message, and what it did
abbrev pub Sends : Bool → Record → Result (Option ObjectView) SendError → StoredEnd → StoredEnd → Type 0
Sends events m (Ok o) x y = HasId (new_of events (sent_view m)) x.backend.table × (IsTooLong m → ⊥) × (y ≡ having_sent events m x)
    × (o ≡ seen_by x.backend.table.client (new_of events (sent_view m)))
Sends events m (Err send_error.IdsExhausted) x y = (HasId (new_of events (sent_view m)) x.backend.table → ⊥) × (y ≡ x)
Sends events m (Err send_error.MessageTooLong) x y = HasId (new_of events (sent_view m)) x.backend.table × IsTooLong m × (y ≡ x)
Sends events m (Err send_error.NoMemory) x y = y ≡ x

-- a message of a row, which may be sent where it isn't too long
pub record IsSendable (events : Bool) (next : ℕ) (m : Sent) : Type 0 where
  pub row : Row
  pub is_row : row_of events m ≡ Some row
  pub kinds : AreOf row.kinds m.values
  pub target : m.target < 2 ^ 64
  pub opcode : m.opcode < 2 ^ 32
  pub fresh : HasNextId next (new_of events m)

-- what is announced is this
pub record IsNew (a : Announced) (n : New) : Type 0 where
  pub id : a.id ≡ n.id
  pub interface : a.interface ≡ known_in n.interface
  pub version : a.version ≡ n.version

-- the same, where anything is
abbrev pub AreNew : Option Announced → Option New → Type 0
AreNew None None = Unit {0}
AreNew (Some a) (Some n) = IsNew a n
AreNew a n = ⊥

-- what names the object of that id, where it is one of the protocol
abbrev pub IsTarget : Option Target → ℕ → Option New → Type 0
IsTarget None id o = (interface : KnownInterface) (version : ℕ) → o ≡ Some (record { id = id; interface = Known interface; version = version }) → ⊥
IsTarget (Some t) id o = (t.id ≡ id) × (o ≡ Some (record { id = id; interface = Known t.interface; version = t.version }))
