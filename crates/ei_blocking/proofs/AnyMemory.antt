-- What stands at the front of an endpoint, whatever memory it has made ready and whatever is unsent.
use Rattle.std.proofs.Common.{◌≡◌, ℕ, ◌+◌, ◌||◌, length, subst, Bool, true, false, cond, List, Option, Some, None, Result, Ok, Err, refl, sym, ap}
use Rattle.std.specs.Prelude.{nat_lt, nat_le}
use Rattle.std.specs.FinMap as finite
use Rattle.ei_spec.specs.Interface.{Interface, Known, Other, ObjectView}
use Rattle.ei_spec.specs.Rows.{Row, Announces, Nothing, Fixed, Named, row_at, new_id, version_of, name_in}
use Rattle.ei_spec.specs.Interface.{named}
use Rattle.ei_spec.specs.Table.{table}
use Rattle.ei_spec.specs.Value.{Kind, Value}
use Rattle.ei_spec.specs.Message.{Raw, Front, Short, Unlawful, Whole, front}
use Rattle.ei_spec.specs.Reading.{Fault, InvalidId, Unread, ArgumentStop, ◌then◌, stopping, all_at}
use Rattle.ei_backend.specs.Table.{TableView, accept, found, peer_end}
use Rattle.ei_backend.specs.Message.{Parsed, with_new, announce, row_read, message_read}
use Rattle.ei_backend.specs.Endpoint.{Endpoint}
use Rattle.ei_backend.specs.Backend.{BackendView, BodyOutcome, FrontAnswer, outcome, body_read, of_outcome, next}
use Rattle.ei_blocking.specs.Still.{still}

-- ---- objects, and the room for new ones

-- the objects with room up to this id
abbrev roomed : ℕ → TableView → TableView
roomed n t = record t { room = n }

abbrev roomed_in : ℕ → Result TableView Fault → Result TableView Fault
roomed_in n (Ok t) = Ok (roomed n t)
roomed_in n (Err f) = Err f

accept_roomed : (n : ℕ) (t : TableView) (id : ℕ) (interface : Interface) (version : ℕ) → with_new (accept (roomed n t) id interface version) ≡ roomed_in n (with_new (accept t id interface version))
accept_roomed n t id interface version = by (nat_lt id t.next_peer || nat_le (peer_end t) id)
  where
    by : (b : Bool) → with_new (cond b (Err (InvalidId id)) (Ok (record { id = id; interface = interface; version = version; client_side = t.client }, record { objects = finite.insert t.objects id (record { id = id; interface = interface; version = version; client_side = t.client }); next_own = t.next_own; next_peer = id + 1; client = t.client; room = n })))
        ≡ roomed_in n (with_new (cond b (Err (InvalidId id)) (Ok (record { id = id; interface = interface; version = version; client_side = t.client }, record { objects = finite.insert t.objects id (record { id = id; interface = interface; version = version; client_side = t.client }); next_own = t.next_own; next_peer = id + 1; client = t.client; room = t.room }))))
    by true = refl
    by false = refl

announce_roomed : (n : ℕ) (a : Announces) (kinds : List Kind) (values : List Value) (t : TableView) → announce a kinds values (roomed n t) ≡ roomed_in n (announce a kinds values t)
announce_roomed n Nothing kinds values t = refl
announce_roomed n (Fixed k) kinds values t = accept_roomed n t (new_id kinds values) (Known k) (version_of values)
announce_roomed n Named kinds values t = accept_roomed n t (new_id kinds values) (named (name_in values)) (version_of values)

-- ---- a body

abbrev roomed_out : ℕ → BodyOutcome → BodyOutcome
roomed_out n o = record o { table = roomed n o.table }

-- what is announced behind the arguments
abbrev announced_behind : TableView → List Value × Unread → Result TableView Fault → Result Parsed ArgumentStop
announced_behind t x r = stopping x.1.taken r then λ u. Ok (record { values = x.0; table = u; unread = x.1 })

behind_roomed : (n len : ℕ) (t : TableView) (x : List Value × Unread) (r : Result TableView Fault) → outcome len (roomed n t) (announced_behind (roomed n t) x (roomed_in n r)) ≡ roomed_out n (outcome len t (announced_behind t x r))
behind_roomed n len t x (Ok u) = refl
behind_roomed n len t x (Err f) = refl

row_roomed : (n len : ℕ) (r : Row) (s : Unread) (t : TableView) → outcome len (roomed n t) (row_read r s (roomed n t)) ≡ roomed_out n (outcome len t (row_read r s t))
row_roomed n len r s t = by (all_at r.kinds s) refl
  where
    by : (a : Result (List Value × Unread) ArgumentStop) → all_at r.kinds s ≡ a → outcome len (roomed n t) (row_read r s (roomed n t)) ≡ roomed_out n (outcome len t (row_read r s t))
    by (Err f) e = rw e refl
    by (Ok x) e =
        let announces : announce r.announces r.kinds x.0 (roomed n t) ≡ roomed_in n (announce r.announces r.kinds x.0 t) = announce_roomed n r.announces r.kinds x.0 t in
        rw (e, announces) (behind_roomed n len t x (announce r.announces r.kinds x.0 t))

message_roomed : (n len : ℕ) (i : Interface) (opcode : ℕ) (s : Unread) (t : TableView) → outcome len (roomed n t) (message_read true i opcode s (roomed n t)) ≡ roomed_out n (outcome len t (message_read true i opcode s t))
message_roomed n len (Other name) opcode s t = refl
message_roomed n len (Known k) opcode s t = by (row_at opcode (table true k)) refl
  where
    by : (o : Option Row) → row_at opcode (table true k) ≡ o → outcome len (roomed n t) (message_read true (Known k) opcode s (roomed n t)) ≡ roomed_out n (outcome len t (message_read true (Known k) opcode s t))
    by None e = rw e refl
    by (Some r) e = rw e (row_roomed n len r s t)

-- ---- the front

-- the endpoint with the memory of another, and what is unsent there
abbrev with_memory : BackendView → BackendView → BackendView
with_memory x y = record x { table = roomed y.table.room x.table; unsent = y.unsent; unsent_handles = y.unsent_handles; capacity = y.capacity; room = y.room }

abbrev made : Endpoint → BackendView → BackendView
made e y = record {
  table = record { objects = e.objects; next_own = e.next_own; next_peer = e.next_peer; client = e.client; room = y.table.room };
  unread = e.unread;
  handles = e.handles;
  unsent = y.unsent;
  unsent_handles = y.unsent_handles;
  closed = e.closed;
  capacity = y.capacity;
  room = y.room;
}

-- an endpoint that stands as another is that one but for these
pub memory_is : (x y : BackendView) → still y ≡ still x → y ≡ with_memory x y
memory_is x y e = ap (λ (s : Endpoint). made s y) e

-- the same answer, and the same stands then
pub record SameNext (x y : FrontAnswer × BackendView) : Type 0 where
  pub answer : y.0 ≡ x.0
  pub stands : still y.1 ≡ still x.1

outcome_same : (x y : BackendView) (target : ObjectView) (opcode : ℕ) (rest : List ℕ) (o : BodyOutcome) → SameNext (of_outcome x target opcode rest o) (of_outcome (with_memory x y) target opcode rest (roomed_out y.table.room o))
outcome_same x y target opcode rest o = record { answer = refl; stands = refl }

next_made : (x y : BackendView) → SameNext (next true x) (next true (with_memory x y))
next_made x y = by (front x.unread) refl
  where
    at : (m : Raw) (rest : List ℕ) (o : Option ObjectView) → found x.table m.id ≡ o → front x.unread ≡ Whole m rest → SameNext (next true x) (next true (with_memory x y))
    at m rest None f e = rw (e, f) (record { answer = refl; stands = refl })
    at m rest (Some target) f e =
        let body : body_read true target m.opcode m.body x.handles (roomed y.table.room x.table) ≡ roomed_out y.table.room (body_read true target m.opcode m.body x.handles x.table) =
        message_roomed y.table.room (16 + length m.body) target.interface m.opcode (record { bytes = m.body; handles = x.handles; taken = 0 }) x.table in
        rw (e, f, body) (outcome_same x y target m.opcode rest (body_read true target m.opcode m.body x.handles x.table))

    by : (f : Front) → front x.unread ≡ f → SameNext (next true x) (next true (with_memory x y))
    by Short e = rw e (record { answer = refl; stands = refl })
    by (Unlawful n) e = rw e (record { answer = refl; stands = refl })
    by (Whole m rest) e = at m rest (found x.table m.id) refl e

-- endpoints that stand alike have the same at the front
pub next_same : (x y : BackendView) → still y ≡ still x → SameNext (next true x) (next true y)
next_same x y e = subst (λ (z : BackendView). SameNext (next true x) (next true z)) (sym (memory_is x y e)) (next_made x y)
