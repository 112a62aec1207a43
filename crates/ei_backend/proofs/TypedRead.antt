-- A typed message that was written is read as it was sent.
use Rattle.std.proofs.Common.{◌≡◌, ℕ, ◌<◌, ◌≤◌, Bool, true, false, not, cond, List, ◌++◌, length, drop, Option, Some, None, Result, Ok}
use Rattle.std.proofs.Common.{refl, sym, ap, subst, ◌∙◌, arith}
use Rattle.std.specs.Prelude.{IfSome, IsSome}
use Rattle.std.specs.List.{flat_map}
use Rattle.std.proofs.Math.Seq.{drop-append_seam}
use Rattle.ei_spec.specs.declared.interface.KnownInterface.{KnownInterface}
use Rattle.ei_spec.specs.Value.{Kind, Value, handles_of}
use Rattle.ei_spec.specs.Arguments.{AreOf}
use Rattle.ei_spec.specs.Reading.{Fault}
use Rattle.ei_spec.specs.Interface.{Interface, Known, ObjectView, named}
use Rattle.ei_spec.specs.Rows.{Row, Announces, Nothing, Fixed, Named, new_id, version_of, name_in}
use Rattle.ei_spec.specs.Piece.{Piece}
use Rattle.ei_spec.proofs.RowNames.{row_of_name}
use Rattle.ei_backend.specs.Table.{TableView, Announced, accept, found, own_end, peer_end}
use Rattle.ei_backend.specs.Message.{announce, with_new}
use Rattle.ei_backend.specs.Step.{reading}
use Rattle.ei_backend.specs.Backend.{BackendView, FrontAnswer, Waits, Refused, Gone, Message, Answers, Brings, next, sent, removed, with_announced}
use Rattle.ei_backend.specs.Backend.{after_row, unsent_of}
use Rattle.ei_backend.specs.Sends.{AreOfRow, IsAnnounced, row_size}
use Rattle.ei_backend.specs.Typed.{piece_of, behind, new_object, new_of, HasSent, HasCome, IsRead, HandsOut}
use Rattle.ei_backend.specs.declared.message.PendingRequestResult.{PendingRequestResult}
use Rattle.ei_backend.specs.declared.message.PendingRequestResult.TheVariants as pending
use Rattle.ei_wire.specs.Gives.{fault_of}
use Rattle.ei_backend.proofs.GivenOnce.{accepted_is, peer_found}
use Rattle.ei_backend.proofs.FoundAfter.{accepts}
use Rattle.ei_backend.proofs.NextIs.{reads}
use Rattle.ei_backend.proofs.ShortRows.{short_row}

-- ---- what a row adds to what waits

still : (d : Bool) (b : BackendView) (id : ℕ) → unsent_of (cond d (removed b id) b) ≡ unsent_of b
still true b id = refl
still false b id = refl

still_new : (a : Announces) (values : List Value) (b : BackendView) → unsent_of (with_announced a values b) ≡ unsent_of b
still_new Nothing values b = refl
still_new (Fixed k) values b = refl
still_new Named values b = refl

pub written : (r : ℕ × Row) (target : ObjectView) (values : List Value) (b : BackendView) → unsent_of (after_row (Some r) target values b) ≡ behind (unsent_of b) (piece_of target.id r.0 values)
written r target values b =
    let s = sent b target.id r.0 values in
    still r.1.destroys (with_announced r.1.announces values s) target.id ∙ still_new r.1.announces values s

same_end : {A : Type 0} (front a b : List A) → front ++ a ≡ front ++ b → a ≡ b
same_end front a b e = sym (drop-append_seam front a) ∙ ap (λ l. drop (length front) l) e ∙ drop-append_seam front b

-- ---- one object is announced at most

pub once : (t u : TableView) (x y : Option ObjectView) → Announced x t u → Announced y t u → x ≡ y
once t u None None h k = refl
once t u None (Some p) h k = let a = accepted_is t u p.id p.version p.interface p k in absurd (omega (arith, a.low, ap (λ (v : TableView). v.next_peer) a.table, ap (λ (v : TableView). v.next_peer) h))
once t u (Some o) None h k = let a = accepted_is t u o.id o.version o.interface o h in absurd (omega (arith, a.low, ap (λ (v : TableView). v.next_peer) a.table, ap (λ (v : TableView). v.next_peer) k))
once t u (Some o) (Some p) h k =
    let a = accepted_is t u o.id o.version o.interface o h in
    let b = accepted_is t u p.id p.version p.interface p k in
    let same : o.id ≡ p.id = omega (arith, ap (λ (v : TableView). v.next_peer) a.table, ap (λ (v : TableView). v.next_peer) b.table) in
    sym (peer_found t u o.id o.version o.interface o h) ∙ ap (found u) same ∙ peer_found t u p.id p.version p.interface p k

pub known_after : (t u : TableView) (x : Option ObjectView) → Announced x t u → IfSome x (λ o. found u o.id ≡ Some o)
known_after t u None h = tt
known_after t u (Some o) h = peer_found t u o.id o.version o.interface o h

-- ---- what is announced is accepted at the other end

ends_meet : (t u : TableView) (c : Bool) → t.client ≡ c → u.client ≡ not t.client → own_end t ≡ peer_end u
ends_meet t u true e side = let other : u.client ≡ false = side ∙ ap not e in rw (e, other) refl
ends_meet t u false e side = let other : u.client ≡ true = side ∙ ap not e in rw (e, other) refl

-- the table with the object of that id
taken : (t : TableView) (id version : ℕ) (i : Interface) → t.next_peer ≤ id → id < peer_end t →
    (u : TableView) × (accept t id i version ≡ Ok (record { id = id; interface = i; version = version; client_side = t.client }, u))
taken t id version i low high =
    let h = accepts t id version i low high in
    let a = accepted_is t h.0 id version i h.1 h.2 in
    (h.0, h.2 ∙ ap (λ (o : ObjectView). let r : Result (ObjectView × TableView) Fault = Ok (o, h.0) in r) a.object)

arrives : (a : Announces) (kinds : List Kind) (values : List Value) (t u : TableView) → own_end t ≡ peer_end u → IfSome (new_object a kinds values t.client) (λ o. (o.id ≡ t.next_own) × (o.id < own_end t)) →
    IfSome (new_object a kinds values u.client) (λ o. u.next_peer ≤ o.id) →
    (v : TableView) × (announce a kinds values u ≡ Ok v) × Announced (new_object a kinds values u.client) u v
arrives Nothing kinds values t u meet given fresh = (u, refl, refl)
arrives (Fixed k) kinds values t u meet given fresh =
    let h = taken u (new_id kinds values) (version_of values) (Known k) fresh (omega (arith, given.1, meet)) in
    (h.0, ap with_new h.1, h.1)
arrives Named kinds values t u meet given fresh =
    let h = taken u (new_id kinds values) (version_of values) (named (name_in values)) fresh (omega (arith, given.1, meet)) in
    (h.0, ap with_new h.1, h.1)

-- the object that was made is the one that the other end has
same_there : (a : Announces) (kinds : List Kind) (values : List Value) (t u v : TableView) (o : ObjectView) → IfSome (new_object a kinds values t.client) (λ o. (o.id ≡ t.next_own) × (o.id < own_end t)) →
    IfSome (new_object a kinds values u.client) (λ o. found v o.id ≡ Some o) → IsAnnounced a values t o → found v o.id ≡ Some (record o { client_side = u.client })
same_there Nothing kinds values t u v o given known h = absurd h
same_there (Fixed k) kinds values t u v o given known h =
    let at : found v t.next_own ≡ Some (record { id = t.next_own; interface = Known k; version = version_of values; client_side = u.client }) = subst (λ (n : ℕ). found v n ≡ Some (record { id = n; interface = Known k; version = version_of values; client_side = u.client })) given.0 known in
    subst (λ (x : ObjectView). found v x.id ≡ Some (record x { client_side = u.client })) (sym h) at
same_there Named kinds values t u v o given known h =
    let at : found v t.next_own ≡ Some (record { id = t.next_own; interface = named (name_in values); version = version_of values; client_side = u.client }) = subst (λ (n : ℕ). found v n ≡ Some (record { id = n; interface = named (name_in values); version = version_of values; client_side = u.client })) given.0 known in
    subst (λ (x : ObjectView). found v x.id ≡ Some (record x { client_side = u.client })) (sym h) at

-- ---- the law

pub typed_read : (events : Bool) (interface : KnownInterface) (name : List ℕ) (r : ℕ × Row) (target there : ObjectView) (values : List Value) (added rest : Piece) (before after reader : BackendView) → HasSent events interface name r target values before after → HasCome interface r target there values added rest before after reader →
    (left : BackendView) × IsRead events r there values rest before reader left
typed_read events interface name r target there values added rest before after reader s h =
    let kinds : AreOf r.1.kinds values = subst (λ (o : Option (ℕ × Row)). AreOfRow o values) s.row s.kinds in
    let by_name = row_of_name events interface name r s.row in
    let short = short_row events interface r target.id values by_name.1 kinds (λ has. subst (λ (o : Option (ℕ × Row)). row_size o target values ≤ 1048576) s.row (s.short has)) in
    let piece : behind (unsent_of before) added ≡ behind (unsent_of before) (piece_of target.id r.0 values) = sym h.adds ∙ ap unsent_of s.sent ∙ ap (λ (o : Option (ℕ × Row)). unsent_of (after_row o target values before)) s.row ∙ written r target values before in
    let bytes = same_end before.unsent added.bytes (piece_of target.id r.0 values).bytes (ap (λ (p : Piece). p.bytes) piece) in
    let handles = same_end before.unsent_handles added.handles (flat_map handles_of values) (ap (λ (p : Piece). p.handles) piece) in
    let came = arrives r.1.announces r.1.kinds values before.table reader.table (ends_meet before.table reader.table before.table.client refl h.side) s.new h.fresh in
    let left : BackendView = reading rest.bytes rest.handles came.0 reader in
    let answer = reads events interface r.0 r.1 there target.id values rest came.0 reader
    (record { row = by_name.1; kinds = kinds; lawful = record { id = s.id; opcode = omega (arith, by_name.0); size = short } })
    (record { bytes = h.bytes ∙ ap (λ l. l ++ rest.bytes) bytes; handles = h.handles ∙ ap (λ l. l ++ rest.handles) handles; live = h.live; is_one = h.is_one; accepted = came.1 }) in
    let known = known_after reader.table came.0 (new_of r.1 values reader.table.client) came.2 in
    (left, record { answer = answer; is = refl; announced = came.2; known = known; same = λ o. same_there r.1.announces r.1.kinds values before.table reader.table came.0 o s.new known })

-- ---- what is handed out

module _ {M : Type 0} (target : M → ObjectView) (code : M → ℕ) (values : M → List Value) (announced : M → Option ObjectView) where
  refuses_none : (f : Option Fault) (there : ObjectView) (opcode : ℕ) (said : List Value) (b c : BackendView) (want : FrontAnswer × BackendView) → want ≡ (Message there opcode said, c) → IfSome f (λ x. want ≡ (Refused x, b)) → IsSome f → ⊥
  refuses_none None there opcode said b c want is h some = absurd cc
  refuses_none (Some f) there opcode said b c want is h some = let e : Message there opcode said ≡ Refused f = ap (λ (p : FrontAnswer × BackendView). p.0) (sym is ∙ h) in cc

  pub hands_out : (answer : Option (PendingRequestResult M)) (there : ObjectView) (opcode : ℕ) (said : List Value) (new : Option ObjectView) (t : TableView) (b c : BackendView) (want : FrontAnswer × BackendView) → want ≡ (Message there opcode said, c) → Announced new t c.table →
      Answers target code values answer b want → Brings announced answer t b.table → HandsOut target code values announced there opcode said new answer
  hands_out None there opcode said new t b c want is known h brings = let e : Message there opcode said ≡ Waits = ap (λ (p : FrontAnswer × BackendView). p.0) (sym is ∙ h) in absurd cc
  hands_out (Some (pending.Request m)) there opcode said new t b c want is known h brings =
      let e : Message (target m) (code m) (values m) ≡ Message there opcode said = ap (λ (p : FrontAnswer × BackendView). p.0) (sym h ∙ is) in
      let same : c ≡ b = ap (λ (p : FrontAnswer × BackendView). p.1) (sym is ∙ h) in
      (cc, cc, cc, once t b.table (announced m) new brings (subst (λ (x : BackendView). Announced new t x.table) same known))
  hands_out (Some (pending.ParseError f)) there opcode said new t b c want is known h brings = absurd (refuses_none (fault_of f) there opcode said b c want is h.0 h.1)
  hands_out (Some (pending.InvalidObject id)) there opcode said new t b c want is known h brings = let e : Message there opcode said ≡ Gone id = ap (λ (p : FrontAnswer × BackendView). p.0) (sym is ∙ h) in absurd cc

  pub typed_out : (events : Bool) (interface : KnownInterface) (name : List ℕ) (r : ℕ × Row) (to there : ObjectView) (said : List Value) (added rest : Piece) (before after reader left : BackendView) (answer : Option (PendingRequestResult M)) → HasSent events interface name r to said before after →
      HasCome interface r to there said added rest before after reader → Answers target code values answer left (next events reader) → Brings announced answer reader.table left.table →
      HandsOut target code values announced there r.0 said (new_of r.1 said reader.table.client) answer
  typed_out events interface name r to there said added rest before after reader left answer s h answers brings =
      let read = typed_read events interface name r to there said added rest before after reader s h in
      hands_out answer there r.0 said (new_of r.1 said reader.table.client) reader.table left read.0 (next events reader) read.1.answer read.1.announced answers brings
