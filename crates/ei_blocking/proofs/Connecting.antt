-- The event that hands the connection over: the reading ends with it, and the connection is there.
use Rattle.std.proofs.Common.{◌≡◌, ℕ, ◌+◌, ◌||◌, Bool, true, false, cond, eqb, ltb, leb, List, [], ◌∷◌, length, drop, Some, Result, Ok, Err, refl, sym, ap, ◌∙◌, arith}
use Rattle.std.specs.Prelude.{codes}
use Rattle.std.specs.Ordering.{nat_cmp}
use Rattle.std.specs.FinMap.{FinMap, get, insert, get-insert}
use Rattle.std.specs.Cmp.{nat_cmp_total, unsigned_tied}
use Rattle.std.proofs.lemmas.Bool.Decides.{nat_tests}
use Rattle.ei_spec.specs.declared.interface.KnownInterface.TheVariants as known
use Rattle.ei_spec.specs.Interface.{Interface, Known, ObjectView}
use Rattle.ei_spec.specs.Rows.{Row, Fixed, announcing}
use Rattle.ei_spec.specs.Value.{Value, U32, New, Word, Long}
use Rattle.ei_spec.specs.Message.{Raw}
use Rattle.ei_spec.specs.Reading.{Fault, InvalidId, Unread, ArgumentStop, all_at}
use Rattle.ei_spec.specs.Stream.{Final, Ended, reading, read}
use Rattle.ei_spec.proofs.GoesOn.{read_final}
use Rattle.ei_backend.specs.Table.{TableView, accept, found, peer_end}
use Rattle.ei_backend.specs.Message.{with_new, announce, row_read}
use Rattle.ei_backend.specs.Endpoint.{Endpoint}
use Rattle.ei_backend.specs.Backend.{BackendView, FrontAnswer, Message, outcome, next}
use Rattle.ei_greeting.specs.Shaking.{Greeter, Connects, shake, shake_of, judge, outcome_to}
use Rattle.ei_greeting.specs.Opening.{reading_of, stopped_at, table_by, connected_at}
use Rattle.ei_blocking.specs.Still.{still}
use Rattle.ei_blocking.proofs.AnyMemory.{next_same}
use Rattle.ei_blocking.proofs.Accepting.{event_at, takes_none, behind_event}

-- ---- what the event announces

-- what is read of a row was announced
row_announced : (r : Row) (len : ℕ) (s : Unread) (t : TableView) (values : List Value) → (outcome len t (row_read r s t)).said ≡ Ok values →
    announce r.announces r.kinds values t ≡ Ok (outcome len t (row_read r s t)).table
row_announced r len s t values = by (all_at r.kinds s) refl
  where
    got : (b : Bool) (f : Fault) (x : List Value × Unread) (u : TableView) → announce r.announces r.kinds x.0 t ≡ Ok u → cond b (Ok x.0) (Err f) ≡ Ok values → announce r.announces r.kinds values t ≡ Ok u
    got true f x u n e = let same : x.0 ≡ values = cc in ap (λ (vs : List Value). announce r.announces r.kinds vs t) (sym same) ∙ n
    got false f x u n e = absurd cc

    at : (x : List Value × Unread) (u : Result TableView Fault) → announce r.announces r.kinds x.0 t ≡ u → all_at r.kinds s ≡ Ok x →
        (outcome len t (row_read r s t)).said ≡ Ok values → announce r.announces r.kinds values t ≡ Ok (outcome len t (row_read r s t)).table
    at x (Err f) n a = rw (a, n) (λ e. absurd cc)
    at x (Ok u) n a = rw (a, n) (got (eqb (length x.1.bytes) 0) _ x u n)

    by : (a : Result (List Value × Unread) ArgumentStop) → all_at r.kinds s ≡ a →
        (outcome len t (row_read r s t)).said ≡ Ok values → announce r.announces r.kinds values t ≡ Ok (outcome len t (row_read r s t)).table
    by (Err f) a = rw a (λ e. absurd cc)
    by (Ok x) a = at x (announce r.announces r.kinds x.0 t) refl a

abbrev connection_row : Row
connection_row = announcing (codes "connection") (U32 ∷ New ∷ U32 ∷ []) (Fixed known.Connection)

-- the connection's event announces the connection
connection_announced : (b : BackendView) (m : Raw) (target : ObjectView) (serial id version : ℕ) → target.interface ≡ Known known.Handshake → m.opcode ≡ 2 →
    (outcome_to b m target).said ≡ Ok (Word serial ∷ Long id ∷ Word version ∷ []) → with_new (accept b.table id (Known known.Connection) version) ≡ Ok (outcome_to b m target).table
connection_announced b m target serial id version i o =
    rw (i, o) (row_announced connection_row (16 + length m.body) (record { bytes = m.body; handles = b.handles; taken = 0 }) b.table (Word serial ∷ Long id ∷ Word version ∷ []))

-- the object that a peer announces so
abbrev announced_as : TableView → ℕ → Interface → ℕ → ObjectView
announced_as t id interface version = record { id = id; interface = interface; version = version; client_side = t.client }

abbrev accepted_if : Bool → TableView → ℕ → Interface → ℕ → Result (ObjectView × TableView) Fault
accepted_if b t id interface version = cond b (Err (InvalidId id)) (Ok (announced_as t id interface version, record { objects = insert t.objects id (announced_as t id interface version); next_own = t.next_own; next_peer = id + 1; client = t.client; room = t.room }))

abbrev with_announced : TableView → ℕ → Interface → ℕ → TableView
with_announced t id interface version = record { objects = insert t.objects id (announced_as t id interface version); next_own = t.next_own; next_peer = id + 1; client = t.client; room = t.room }

is_announced : (b : Bool) (t u : TableView) (id version : ℕ) (interface : Interface) (o : ObjectView) → accepted_if b t id interface version ≡ Ok (o, u) →
    (o ≡ announced_as t id interface version) × (u.objects ≡ insert t.objects id (announced_as t id interface version))
is_announced true t u id version interface o e = absurd cc
is_announced false t u id version interface o e =
    let same : ◌≡◌ {A = ObjectView × TableView} (announced_as t id interface version, with_announced t id interface version) (o, u) = cc in
    (ap (λ (x : ObjectView × TableView). x.0) (sym same), ap (λ (x : ObjectView × TableView). x.1.objects) (sym same))

is_added : (b : Bool) (t u : TableView) (id version : ℕ) (interface : Interface) → with_new (accepted_if b t id interface version) ≡ Ok u → u.objects ≡ insert t.objects id (announced_as t id interface version)
is_added true t u id version interface e = absurd cc
is_added false t u id version interface e =
    let after : with_announced t id interface version ≡ u = cc in
    ap (λ (x : TableView). x.objects) (sym after)

same_key : (k : ℕ) → eqb k k ≡ true
same_key k = grind (arith, nat_tests)

at_own : (m : FinMap nat_cmp ObjectView) (k : ℕ) (o : ObjectView) → get (insert m k o) k ≡ Some o
at_own m k o = get-insert nat_cmp_total m k o k ∙ ap (λ (b : Bool). cond b (Some o) (get m k)) (unsigned_tied k k ∙ same_key k)

-- it is of the interface of connections, at this end
connection_is : (t u : TableView) (o : ObjectView) → with_new (accept t o.id (Known known.Connection) o.version) ≡ Ok u → accept t o.id o.interface o.version ≡ Ok (o, u) →
    o ≡ announced_as t o.id (Known known.Connection) o.version
connection_is t u o e a =
    let test : Bool = ltb o.id t.next_peer || leb (peer_end t) o.id in
    let one = is_added test t u o.id o.version (Known known.Connection) e in
    let other = is_announced test t u o.id o.version o.interface o a in
    let same : Some (announced_as t o.id o.interface o.version) ≡ Some (announced_as t o.id (Known known.Connection) o.version) =
    sym (at_own t.objects o.id (announced_as t o.id o.interface o.version)) ∙ ap (λ (m : FinMap nat_cmp ObjectView). get m o.id) (sym other.1 ∙ one) ∙ at_own t.objects o.id (announced_as t o.id (Known known.Connection) o.version) in
    let object : announced_as t o.id o.interface o.version ≡ announced_as t o.id (Known known.Connection) o.version = cc in
    other.0 ∙ object

-- ---- the reading ends with it

-- the newest message hands this connection over
pub record Finishes (g : Greeter) (b : BackendView) (past : List Raw) (serial : ℕ) (connection : ObjectView) (left : BackendView) : Type 0 where
  pub message : Raw
  pub said_is : shake (found b.table) b message ≡ Some (Connects serial connection.id connection.version)
  pub stops : reading_of g (found b.table) b ≡ reading (message ∷ past) left.unread Ended
  pub stands : still left ≡ still (connected_at (found b.table) 0 b (message ∷ past) left.unread).left
  pub object : connection ≡ record { id = connection.id; interface = Known known.Connection; version = connection.version; client_side = b.table.client }

module _ (g : Greeter) (b : BackendView) (past : List Raw) (now left : BackendView) (target : ObjectView) (serial : ℕ) (connection : ObjectView)
    (goes : reading_of g (found b.table) b ≡ read (judge g (found b.table) b) past now.unread) (at : still now ≡ still (stopped_at b now.unread)) (interface : target.interface ≡ Known known.Handshake)
    (answers : next true now ≡ (Message target 2 (Word serial ∷ Long connection.id ∷ Word connection.version ∷ []), left))
    (announced : accept now.table connection.id connection.interface connection.version ≡ Ok (connection, left.table)) where
  abbrev values : List Value
  values = Word serial ∷ Long connection.id ∷ Word connection.version ∷ []

  -- the connection, by what the endpoint had before
  of_connections : connection ≡ record { id = connection.id; interface = Known known.Connection; version = connection.version; client_side = b.table.client }
  of_connections =
      let event = event_at now now.unread target 2 values (ap (λ (x : FrontAnswer × BackendView). x.0) answers) in
      let m : Raw = event.message in
      let table : left.table ≡ (outcome_to now m target).table = ap (λ (x : FrontAnswer × BackendView). x.1.table) (sym answers) ∙ ap (λ (x : BackendView). x.table) event.left in
      let added = connection_announced now m target serial connection.id connection.version interface event.code event.said ∙ ap (λ (t : TableView). Ok t) (sym table) in
      let client : now.table.client ≡ b.table.client = ap (λ (x : Endpoint). x.client) at in
      connection_is now.table left.table connection added announced
      ∙ ap (λ (c : Bool). record { id = connection.id; interface = Known known.Connection; version = connection.version; client_side = c }) client

  pub finishes : Finishes g b past serial connection left
  unfolding judge shake
  finishes =
      let same = next_same (stopped_at b now.unread) now at in
      let event = event_at b now.unread target 2 values (sym same.answer ∙ ap (λ (x : FrontAnswer × BackendView). x.0) answers) in
      let m : Raw = event.message in
      let leaves : still left ≡ still (behind_event b m event.behind target) = ap (λ (x : FrontAnswer × BackendView). still x.1) (sym answers) ∙ same.stands ∙ ap still event.left in
      let unread : left.unread ≡ event.behind = ap (λ (x : Endpoint). x.unread) leaves in
      let none : (outcome_to b m target).taken ≡ 0 = takes_none b m target values interface event.said in
      let handles : drop (outcome_to b m target).taken b.handles ≡ b.handles = ap (λ (n : ℕ). drop n b.handles) none in
      let table : (outcome_to b m target).table ≡ table_by b m (found b.table m.id) = ap (table_by b m) (sym event.object) in
      let says : shake_of target.interface 2 values ≡ Some (Connects serial connection.id connection.version) = rw interface refl in
      let shakes : shake (found b.table) b m ≡ Some (Connects serial connection.id connection.version) = rw (event.object, event.said, event.code) says in
      let judges : judge g (found b.table) b past m ≡ Final = rw (event.object, event.said, event.code, says) refl in
      record {
        message = m;
        said_is = shakes;
        stops = goes ∙ read_final (judge g (found b.table) b) past now.unread m event.behind event.whole judges ∙ ap (λ (l : List ℕ). reading (m ∷ past) l Ended) (sym unread);
        stands = leaves ∙ (λ i. still (record b { table = table i; unread = sym unread i; handles = handles i }));
        object = of_connections;
      }
