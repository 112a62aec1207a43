-- What the two ends sent and took, as it is stored. Lists have the newest first.
use Rattle.std.specs.Prelude.{ℕ, Bool, List, [], ◌∷◌, map, length, Option, Some, None}
use Rattle.ei_spec.specs.Value.{Kind, Value}
use Rattle.ei_spec.specs.Interface.{Interface, Known, Other, ObjectView}
use Rattle.ei_spec.specs.Rows.{Row, row_at}
use Rattle.ei_spec.specs.Table.{table}
use Rattle.ei_spec.specs.declared.interface.KnownInterface.{KnownInterface}
use Rattle.ei_spec.specs.declared.interface.KnownInterface.TheVariants as known
use Rattle.ei_backend.specs.Backend.{BackendView, FrontAnswer, Waits, Refused, Gone, Message, next}
use Rattle.ei_ends.specs.Sent.{Sent, Got, Took, Missed}
use Rattle.ei_ends.specs.Way.{End}
use Rattle.ei_ends.specs.Steps.{called}
use Rattle.ei_values.specs.Stored.{value_view, all_stored}
use Rattle.ei_linked.specs.declared.record.Record.{Record}
use Rattle.ei_linked.specs.declared.record.Got.{Got as StoredGot}
use Rattle.ei_linked.specs.declared.record.Got.TheVariants as got

-- a message, as the laws of two ends see it
abbrev pub sent_view : Record → Sent
sent_view r = record { target = r.target; interface = r.interface; version = r.version; opcode = r.opcode; values = map value_view r.values }

-- and what was taken
abbrev pub got_view : StoredGot → Got
got_view (got.Message message after) = Took (sent_view message) after
got_view (got.InvalidObject id after) = Missed id after

-- an end: its endpoint, and what it sent and took
pub record StoredEnd : Type 0 where
  pub backend : BackendView
  pub sent : List Record
  pub taken : List StoredGot

-- the end, as the laws of two ends see it
abbrev pub end_in : StoredEnd → End
end_in x = record { backend = x.backend; sent = map sent_view x.sent; taken = map got_view x.taken }

-- ---- what a step does to an end

-- the end with another endpoint
abbrev pub with_endpoint : BackendView → StoredEnd → StoredEnd
with_endpoint b x = record { backend = b; sent = x.sent; taken = x.taken }

-- the end once it sent the message
abbrev pub having_sent : Bool → Record → StoredEnd → StoredEnd
having_sent events r x = record { backend = called events (sent_view r) x.backend; sent = r ∷ x.sent; taken = x.taken }

-- the end with one more taken, which left that endpoint
abbrev pub with_got : BackendView → StoredGot → StoredEnd → StoredEnd
with_got b g x = record { backend = b; sent = x.sent; taken = g ∷ x.taken }

-- the interface of an object that has one of the protocol
abbrev pub as_known : Interface → KnownInterface
as_known (Known k) = k
as_known (Other name) = known.Handshake

-- the kinds of a row
abbrev pub kinds_in : Option Row → List Kind
kinds_in None = []
kinds_in (Some r) = r.kinds

-- a message that was read, as it is stored: each value by the kind that its row has there
abbrev pub read_as : Bool → ObjectView → ℕ → List Value → Record
read_as events target opcode values = record {
  target = target.id;
  interface = as_known target.interface;
  version = target.version;
  opcode = opcode;
  values = all_stored (kinds_in (row_at opcode (table events (as_known target.interface)))) values;
}

-- the end that was answered so when it asked for the next message
abbrev pub answered_so : Bool → FrontAnswer → BackendView → StoredEnd → StoredEnd
answered_so events Waits b x = with_endpoint b x
answered_so events (Refused f) b x = with_endpoint b x
answered_so events (Gone id) b x = with_got b (got.InvalidObject id (length x.sent)) x
answered_so events (Message target opcode values) b x = with_got b (got.Message (read_as events target opcode values) (length x.sent)) x

-- the end once it took the next message, if there is one, or what of it is known
unfoldable pub having_read : Bool → StoredEnd → StoredEnd
having_read events x = answered_so events (next events x.backend).0 (next events x.backend).1 x
