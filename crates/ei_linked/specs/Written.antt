-- The messages that an end wrote, as they are read back from what waits to be sent.
use Rattle.std.specs.Prelude.{◌≡◌, ◌+◌, ℕ, Bool, List, [], ◌∷◌, ◌++◌, length, drop, Result, Ok, Err}
use Rattle.std.specs.List.{flat_map}
use Rattle.ei_spec.specs.Message.{Raw, size}
use Rattle.ei_spec.specs.Rows.{row_at}
use Rattle.ei_spec.specs.Table.{table}
use Rattle.ei_spec.specs.Value.{Kind, Value}
use Rattle.ei_spec.specs.Reading.{Unread}
use Rattle.ei_backend.specs.Backend.{BackendView}
use Rattle.ei_wire.specs.declared.header.Header.{Header}
use Rattle.ei_wire.specs.declared.error.ParseError.{ParseError}
use Rattle.ei_wire.specs.declared.error.ParseError.TheVariants as parse_error
use Rattle.ei_ends.specs.Sent.{Sent, raw_of, spelled, handles_in}
use Rattle.ei_ends.specs.Joined.{AreListedCalls}
use Rattle.ei_values.specs.declared.value.Value.{Value as StoredValue}
use Rattle.ei_values.specs.Stored.{stored_as, all_stored}
use Rattle.ei_linked.specs.declared.record.Record.{Record}
use Rattle.ei_linked.specs.declared.written.Unsent.{Unsent}
use Rattle.ei_linked.specs.declared.written.StoreError.{StoreError}
use Rattle.ei_linked.specs.declared.written.StoreError.TheVariants as store_error
use Rattle.ei_linked.specs.Stored.{StoredEnd, end_in, kinds_in}
use Rattle.ei_linked.specs.Held.{Held}

-- a message as it is stored: each value by the kind that its row has there
abbrev pub record_as : Bool → Sent → Record
record_as events m = record {
  target = m.target;
  interface = m.interface;
  version = m.version;
  opcode = m.opcode;
  values = all_stored (kinds_in (row_at m.opcode (table events m.interface))) m.values;
}

-- these messages, the oldest first, stored after those, the newest first
abbrev pub stored_onto : Bool → List Sent → List Record → List Record
stored_onto events [] past = past
stored_onto events (m ∷ ms) past = stored_onto events ms (record_as events m ∷ past)

-- Behind so many bytes and handles of what waits to be sent stand these messages, the oldest first. Each was one that the end might send,
-- behind what it has stored.
pub record AreWritten (events : Bool) (at : Unsent) (ms : List Sent) (x : StoredEnd) : Type 0 where
  pub calls : AreListedCalls events ms (end_in x).sent (end_in x).taken
  pub bytes : drop at.bytes x.backend.unsent ≡ spelled ms
  pub handles : drop at.handles x.backend.unsent_handles ≡ flat_map handles_in ms

-- behind the first of them
abbrev pub behind_message : Unsent → Sent → Unsent
behind_message at m = record { bytes = at.bytes + size (raw_of m); handles = at.handles + length (handles_in m) }

-- what was read back of the message, and what stands behind it
abbrev pub ReadsBack : Bool → Unsent → Sent → Result (Record × Unsent) StoreError → Type 0
ReadsBack events at m (Ok r) = (r.0 ≡ record_as events m) × (r.1 ≡ behind_message at m)
ReadsBack events at m (Err store_error.NoMemory) = Unit {0}
ReadsBack events at m (Err store_error.Unwritten) = ⊥

-- what became of storing these messages: all of them, or none where memory ran out
abbrev pub Stores : {C : Type 0} → Bool → List Sent → Held C → Result (Unit {0}) StoreError → Held C → Type 0
Stores events ms old (Ok t) new = new ≡ record old { sent = stored_onto events ms old.sent }
Stores events ms old (Err store_error.NoMemory) new = Unit {0}
Stores events ms old (Err store_error.Unwritten) new = ⊥

-- what became of the message that stands there: it is stored, and behind it stands that
abbrev pub StoresNext : {C : Type 0} → Bool → Unsent → Sent → Held C → Result Unsent StoreError → Held C → Type 0
StoresNext events at m old (Ok behind) new = (behind ≡ behind_message at m) × (new ≡ record old { sent = record_as events m ∷ old.sent })
StoresNext events at m old (Err store_error.NoMemory) new = Unit {0}
StoresNext events at m old (Err store_error.Unwritten) new = ⊥

-- how much of an endpoint waits to be sent
abbrev pub unsent_in : BackendView → Unsent
unsent_in b = record { bytes = length b.unsent; handles = length b.unsent_handles }

-- the same end with more stored in front
abbrev pub HasMore : {C : Type 0} → Held C → Held C → Type 0
HasMore old new = (more : List Record) × (new ≡ record old { sent = more ++ old.sent })

-- ---- a value

-- a value of the kind was taken, which leaves that
abbrev pub TakesValue : Kind → Value → Unread → Result StoredValue ParseError → Unread → Type 0
TakesValue kind v left (Ok x) now = (x ≡ stored_as kind v) × (now ≡ left)
TakesValue kind v left (Err e) now = e ≡ parse_error.NoMemory

-- the same, of what else would stop it
abbrev pub FindsValue : Kind → Value → Unread → Result StoredValue StoreError → Unread → Type 0
FindsValue kind v left (Ok x) now = (x ≡ stored_as kind v) × (now ≡ left)
FindsValue kind v left (Err store_error.NoMemory) now = Unit {0}
FindsValue kind v left (Err store_error.Unwritten) now = ⊥

-- values of these kinds were taken, which leaves that
abbrev pub TakesAll : List Kind → List Value → Unread → Result (List StoredValue) StoreError → Unread → Type 0
TakesAll kinds vs left (Ok xs) now = (xs ≡ all_stored kinds vs) × (now ≡ left)
TakesAll kinds vs left (Err store_error.NoMemory) now = Unit {0}
TakesAll kinds vs left (Err store_error.Unwritten) now = ⊥

-- ---- a message

-- the header and the body are those of the message
pub record IsFirst (m : Raw) (header : Header) (bytes : List ℕ) : Type 0 where
  pub id : header.object_id ≡ m.id
  pub length : header.length ≡ size m
  pub opcode : header.opcode ≡ m.opcode
  pub body : bytes ≡ m.body
