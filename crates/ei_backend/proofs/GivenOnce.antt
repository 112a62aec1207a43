-- The objects of a table that grew stand under their ids, and no id was given twice.
use Rattle.std.proofs.Common.{◌≡◌, ◌≢◌, ℕ, ◌+◌, ◌<◌, ◌≤◌, Bool, true, false, cond, eqb, ltb, leb, ◌⊎◌, inl, inr}
use Rattle.std.proofs.Common.{List, [], ◌∷◌, ◌++◌, Some, None, Result, Ok, Err, refl, sym, ap, subst, ◌∙◌, arith}
use Rattle.std.specs.List.{AllByRecursion, IsDistinct}
use Rattle.std.specs.Ordering.{nat_cmp}
use Rattle.std.specs.FinMap.{insert, empty, get-empty}
use Rattle.std.proofs.lemmas.Bool.{ltb-true, ne_eqb}
use Rattle.std.proofs.lemmas.Bool.Decides.{nat_tests, eqb_tells}
use Rattle.std.proofs.lemmas.Map.Keys.{IsDistinct-cons}
use Rattle.ei_spec.specs.Reading.{Fault}
use Rattle.ei_spec.specs.Interface.{Interface, ObjectView}
use Rattle.ei_backend.specs.Table.{TableView, Announced, accept, found, own, own_end, own_start, own_limit}
use Rattle.ei_backend.specs.Table.{peer_end, with_own, without, new_table, first_object, first_server_id}
use Rattle.ei_backend.specs.Growth.{Step, Makes, Hears, Removes, table_after, id_after, after_step, grown, ids_given, table_grown, peer_start, IsKnownId}
use Rattle.ei_backend.proofs.Objects.{get_with, get_without}

-- ---- one step

eq_self : (n : ℕ) → eqb n n ≡ true
eq_self n = grind (arith, nat_tests)

pub own_found : (t : TableView) (interface : Interface) (version : ℕ) → found (with_own t interface version) t.next_own ≡ Some (own t interface version)
own_found t interface version = get_with t.objects t.next_own t.next_own (own t interface version) ∙ rw (eq_self t.next_own) refl

pub own_others : (t : TableView) (interface : Interface) (version id : ℕ) → id ≢ t.next_own → found (with_own t interface version) id ≡ found t id
own_others t interface version id other = get_with t.objects t.next_own id (own t interface version) ∙ rw (ne_eqb id t.next_own other) refl

-- what an accepted object was
pub record Accepted (t u : TableView) (id version : ℕ) (interface : Interface) (o : ObjectView) : Type 0 where
  pub low : t.next_peer ≤ id
  pub high : id < peer_end t
  pub object : o ≡ record { id = id; interface = interface; version = version; client_side = t.client }
  pub table : u ≡ record { objects = insert t.objects id o; next_own = t.next_own; next_peer = id + 1; client = t.client; room = t.room }

same_answer : (x y : ObjectView × TableView) → ◌≡◌ {A = Result (ObjectView × TableView) Fault} (Ok x) (Ok y) → x ≡ y
same_answer x y e = cc

accepted_by : (t u : TableView) (id version : ℕ) (interface : Interface) (o : ObjectView) (low high : Bool) → ltb id t.next_peer ≡ low → leb (peer_end t) id ≡ high → accept t id interface version ≡ Ok (o, u) → Accepted t u id version interface o
accepted_by t u id version interface o true high p q e = cc (rw p at e)
accepted_by t u id version interface o false true p q e = cc (rw (p, q) at e)
accepted_by t u id version interface o false false p q e =
    let made = same_answer _ _ (rw (p, q) at e) in
    let object : o ≡ record { id = id; interface = interface; version = version; client_side = t.client } = sym (ap (λ (x : ObjectView × TableView). x.0) made) in
    record { low = grind (arith, nat_tests); high = grind (arith, nat_tests); object = object; table = rw object (sym (ap (λ (x : ObjectView × TableView). x.1) made)) }

pub accepted_is : (t u : TableView) (id version : ℕ) (interface : Interface) (o : ObjectView) → accept t id interface version ≡ Ok (o, u) → Accepted t u id version interface o
accepted_is t u id version interface o e = accepted_by t u id version interface o _ _ refl refl e

-- what was accepted is accepted as what it is
pub accepted_as_is : (t u : TableView) (id version : ℕ) (interface : Interface) (o : ObjectView) → accept t id interface version ≡ Ok (o, u) → Announced (Some o) t u
accepted_as_is t u id version interface o e = ap (λ (x : ObjectView). accept t x.id x.interface x.version) (accepted_is t u id version interface o e).object ∙ e

pub peer_found : (t u : TableView) (id version : ℕ) (interface : Interface) (o : ObjectView) → accept t id interface version ≡ Ok (o, u) → found u id ≡ Some o
peer_found t u id version interface o e = let a = accepted_is t u id version interface o e in rw a.table (get_with t.objects id id o ∙ rw (eq_self id) refl)

pub peer_others : (t u : TableView) (id version other : ℕ) (interface : Interface) (o : ObjectView) → accept t id interface version ≡ Ok (o, u) → other ≢ id → found u other ≡ found t other
peer_others t u id version other interface o e apart = let a = accepted_is t u id version interface o e in rw a.table (get_with t.objects id other o ∙ rw (ne_eqb other id apart) refl)

pub gone : (t : TableView) (id : ℕ) → found (without t id) id ≡ None
gone t id = get_without t.objects id id ∙ rw (eq_self id) refl

pub gone_others : (t : TableView) (id other : ℕ) → other ≢ id → found (without t id) other ≡ found t other
gone_others t id other apart = get_without t.objects id other ∙ rw (ne_eqb other id apart) refl

-- ---- what is found in a table that grew

record Known (first : ℕ) (t : TableView) : Type 0 where
  ids : (id : ℕ) (o : ObjectView) → found t id ≡ Some o → (o.id ≡ id) × IsKnownId first t id
  own : first ≤ t.next_own
  peer : peer_start t.client ≤ t.next_peer

still_known : (first id : ℕ) (t u : TableView) → IsKnownId first t id → t.next_own ≤ u.next_own → t.next_peer ≤ u.next_peer → u.client ≡ t.client → IsKnownId first u id
still_known first id t u (inl zero_is) own peer client = inl zero_is
still_known first id t u (inr (inl mine)) own peer client = inr (inl (mine.0, omega (arith, mine.1)))
still_known first id t u (inr (inr theirs)) own peer client = inr (inr (rw client theirs.0, omega (arith, theirs.1)))

same_object : (x y : ObjectView) → Some x ≡ Some y → x ≡ y
same_object x y e = cc

known_own : (first : ℕ) (t : TableView) (interface : Interface) (version : ℕ) → Known first t → Known first (with_own t interface version)
known_own first t interface version h = record {
  ids = λ id o e. elim (eqb_tells id t.next_own) [
    | inl p ↦
        let o_is = same_object (own t interface version) o (sym (own_found t interface version) ∙ ap (λ (k : ℕ). found (with_own t interface version) k) (sym p.1) ∙ e) in
        (ap (λ (x : ObjectView). x.id) (sym o_is) ∙ sym p.1, inr (inl (omega (arith, h.own, p.1), omega (arith, p.1))))
    | inr p ↦
        let before = h.ids id o (sym (own_others t interface version id p.1) ∙ e) in
        (before.0, still_known first id t (with_own t interface version) before.1 (omega arith) (omega arith) refl)
  ];
  own = omega (arith, h.own);
  peer = h.peer;
}

known_peer : (first : ℕ) (t u : TableView) (id version : ℕ) (interface : Interface) (o : ObjectView) → Known first t → accept t id interface version ≡ Ok (o, u) → Known first u
known_peer first t u id version interface o h e =
    let a = accepted_is t u id version interface o e in
    let next : u.next_peer ≡ id + 1 = rw a.table refl in
    let mine : u.next_own ≡ t.next_own = rw a.table refl in
    let client : u.client ≡ t.client = rw a.table refl in
    record {
      ids = λ k x f. elim (eqb_tells k id) [
        | inl p ↦
            let x_is = same_object o x (sym (peer_found t u id version interface o e) ∙ ap (λ (j : ℕ). found u j) (sym p.1) ∙ f) in
            (ap (λ (y : ObjectView). y.id) (sym x_is) ∙ ap (λ (y : ObjectView). y.id) a.object ∙ sym p.1, inr (inr (rw client (omega (arith, h.peer, a.low, p.1)), omega (arith, next, p.1))))
        | inr p ↦
            let before = h.ids k x (sym (peer_others t u id version k interface o e p.1) ∙ f) in
            (before.0, still_known first k t u before.1 (omega (arith, mine)) (omega (arith, next, a.low)) client)
      ];
      own = omega (arith, h.own, mine);
      peer = rw client (omega (arith, h.peer, next, a.low));
    }

known_left : (first : ℕ) (t : TableView) (id : ℕ) → Known first t → Known first (without t id)
known_left first t id h = record {
  ids = λ k o e. elim (eqb_tells k id) [
    | inl p ↦ let none : found (without t id) k ≡ None = ap (λ (j : ℕ). found (without t id) j) p.1 ∙ gone t id in cc
    | inr p ↦ let before = h.ids k o (sym (gone_others t id k p.1) ∙ e) in (before.0, still_known first k t (without t id) before.1 (omega arith) (omega arith) refl)
  ];
  own = h.own;
  peer = h.peer;
}

known_accept : (first : ℕ) (t : TableView) (id version : ℕ) (interface : Interface) (r : Result (ObjectView × TableView) Fault) → Known first t → accept t id interface version ≡ r → Known first (table_after t r)
known_accept first t id version interface (Ok x) h e = known_peer first t x.1 id version interface x.0 h e
known_accept first t id version interface (Err f) h e = h

known_step : (first : ℕ) (t : TableView) (s : Step) → Known first t → Known first (after_step t s)
known_step first t (Makes interface version) h = elim (ltb t.next_own (own_end t)) as (λ b. Known first (cond b (with_own t interface version) t)) [ true ↦ known_own first t interface version h | false ↦ h ]
known_step first t (Hears id interface version) h = known_accept first t id version interface _ h refl
known_step first t (Removes id) h = known_left first t id h

known_grown : (first : ℕ) (steps : List Step) (t : TableView) → Known first t → Known first (grown t steps)
known_grown first [] t h = h
known_grown first (s ∷ steps) t h = known_grown first steps (after_step t s) (known_step first t s h)

known_new : (client : Bool) (first : ℕ) → Known first (new_table client first)
known_new client first = record {
  ids = λ id o e. elim (eqb_tells id 0) [
    | inl p ↦
        let there : found (new_table client first) id ≡ Some (first_object client) = get_with empty 0 id (first_object client) ∙ rw p.0 refl in
        let o_is = same_object (first_object client) o (sym there ∙ e) in
        (ap (λ (x : ObjectView). x.id) (sym o_is) ∙ sym p.1, inl p.1)
    | inr p ↦ let none : found (new_table client first) id ≡ None = get_with empty 0 id (first_object client) ∙ rw p.0 (get-empty nat_cmp id) in cc
  ];
  own = omega arith;
  peer = elim client as (λ b. peer_start b ≤ cond b first_server_id 1) [ true ↦ omega arith | false ↦ omega arith ];
}

pub under_its_id : (client : Bool) (first id : ℕ) (steps : List Step) (o : ObjectView) → found (table_grown client first steps) id ≡ Some o → o.id ≡ id
under_its_id client first id steps o e = ((known_grown first steps (new_table client first) (known_new client first)).ids id o e).0

pub known : (client : Bool) (first id : ℕ) (steps : List Step) (o : ObjectView) → found (table_grown client first steps) id ≡ Some o → IsKnownId first (table_grown client first steps) id
known client first id steps o e = ((known_grown first steps (new_table client first) (known_new client first)).ids id o e).1

-- ---- the ids that are given

abbrev peer_limit : Bool → ℕ
peer_limit client = cond client 18446744073709551615 first_server_id

-- an id that is still to be given
abbrev IsFresh : TableView → ℕ → Type 0
IsFresh t id = ((t.next_own ≤ id) × (id < own_limit t.client)) ⊎ ((t.next_peer ≤ id) × (id < peer_limit t.client))

record Bounds (t : TableView) : Type 0 where
  mine : own_start t.client ≤ t.next_own
  mine_end : t.next_own ≤ own_limit t.client
  theirs : peer_start t.client ≤ t.next_peer
  theirs_end : t.next_peer ≤ peer_limit t.client

abbrev AllFresh : TableView → List ℕ → Type 0
AllFresh t ids = AllByRecursion (IsFresh t) ids

still_fresh : (t u : TableView) (ids : List ℕ) → t.next_own ≤ u.next_own → t.next_peer ≤ u.next_peer → u.client ≡ t.client → AllFresh u ids → AllFresh t ids
still_fresh t u [] mine theirs client h = tt
still_fresh t u (id ∷ ids) mine theirs client h = (
  elim h.0 [
    | inl k ↦ inl (omega (arith, k.0), subst (λ b. id < own_limit b) client k.1)
    | inr k ↦ inr (omega (arith, k.0), subst (λ b. id < peer_limit b) client k.1)
  ],
  still_fresh t u ids mine theirs client h.1,
)

fresh_accept : (t : TableView) (id version : ℕ) (interface : Interface) (r : Result (ObjectView × TableView) Fault) (ids : List ℕ) → accept t id interface version ≡ r → AllFresh (table_after t r) ids → AllFresh t (id_after r ++ ids)
fresh_accept t id version interface (Err f) ids e h = h
fresh_accept t id version interface (Ok x) ids e h =
    let a = accepted_is t x.1 id version interface x.0 e in
    let is : x.0.id ≡ id = ap (λ (o : ObjectView). o.id) a.object in
    let next : x.1.next_peer ≡ id + 1 = rw a.table refl in
    let same : x.1.next_own ≡ t.next_own = rw a.table refl in
    (inr (omega (arith, a.low, is), rw is a.high), still_fresh t x.1 ids (omega (arith, same)) (omega (arith, next, a.low)) (rw a.table refl) h)

all_fresh : (steps : List Step) (t : TableView) → AllFresh t (ids_given t steps)
all_fresh [] t = tt
all_fresh (Makes interface version ∷ steps) t = elim (ltb t.next_own (own_end t)) as (λ b. ltb t.next_own (own_end t) ≡ b → AllFresh t (cond b (t.next_own ∷ []) [] ++ ids_given (cond b (with_own t interface version) t) steps)) [
  | true ↦ λ e. (inl (omega arith, ltb-true _ _ e), still_fresh t (with_own t interface version) _ (omega arith) (omega arith) refl (all_fresh steps (with_own t interface version)))
  | false ↦ λ e. all_fresh steps t
] refl
all_fresh (Hears id interface version ∷ steps) t = fresh_accept t id version interface _ _ refl (all_fresh steps (table_after t (accept t id interface version)))
all_fresh (Removes id ∷ steps) t = still_fresh t (without t id) _ (omega arith) (omega arith) refl (all_fresh steps (without t id))

-- an id that was given differs from those after it, and each from 0
own_apart : (client : Bool) (a b theirs : ℕ) → own_start client ≤ a → a < own_limit client → peer_start client ≤ theirs → ((a + 1 ≤ b) × (b < own_limit client)) ⊎ ((theirs ≤ b) × (b < peer_limit client)) → eqb a b ≡ false
own_apart client a b theirs s l p (inl h) = ne_eqb a b (λ e. omega (arith, h.0))
own_apart true a b theirs s l p (inr h) = ne_eqb a b (λ e. omega (arith, h.0))
own_apart false a b theirs s l p (inr h) = ne_eqb a b (λ e. omega (arith, h.1))

peer_apart : (client : Bool) (a b mine : ℕ) → peer_start client ≤ a → a < peer_limit client → own_start client ≤ mine → ((mine ≤ b) × (b < own_limit client)) ⊎ ((a + 1 ≤ b) × (b < peer_limit client)) → eqb a b ≡ false
peer_apart client a b mine s l p (inr h) = ne_eqb a b (λ e. omega (arith, h.0))
peer_apart true a b mine s l p (inl h) = ne_eqb a b (λ e. omega (arith, h.1))
peer_apart false a b mine s l p (inl h) = ne_eqb a b (λ e. omega (arith, h.0))

zero_apart : (client : Bool) (b mine theirs : ℕ) → own_start client ≤ mine → peer_start client ≤ theirs → ((mine ≤ b) × (b < own_limit client)) ⊎ ((theirs ≤ b) × (b < peer_limit client)) → eqb 0 b ≡ false
zero_apart true b mine theirs s p (inl h) = ne_eqb 0 b (λ e. omega (arith, h.0))
zero_apart false b mine theirs s p (inl h) = ne_eqb 0 b (λ e. omega (arith, h.0))
zero_apart true b mine theirs s p (inr h) = ne_eqb 0 b (λ e. omega (arith, h.0))
zero_apart false b mine theirs s p (inr h) = ne_eqb 0 b (λ e. omega (arith, h.0))

each : (P Q : ℕ → Type 0) (ids : List ℕ) → ((id : ℕ) → P id → Q id) → AllByRecursion P ids → AllByRecursion Q ids
each P Q [] f h = tt
each P Q (id ∷ ids) f h = (f id h.0, each P Q ids f h.1)

bounds_own : (t : TableView) (interface : Interface) (version : ℕ) → Bounds t → t.next_own < own_end t → Bounds (with_own t interface version)
bounds_own t interface version h lt = record { mine = omega (arith, h.mine); mine_end = omega arith; theirs = h.theirs; theirs_end = h.theirs_end }

bounds_peer : (t u : TableView) (id version : ℕ) (interface : Interface) (o : ObjectView) → Bounds t → Accepted t u id version interface o → Bounds u
bounds_peer t u id version interface o h a = rw a.table (record { mine = h.mine; mine_end = h.mine_end; theirs = omega (arith, h.theirs, a.low); theirs_end = omega (arith, a.high) })

distinct_accept : (t : TableView) (id version : ℕ) (interface : Interface) (r : Result (ObjectView × TableView) Fault) (steps : List Step) → accept t id interface version ≡ r → Bounds t →
    ((u : TableView) → Bounds u → IsDistinct eqb (ids_given u steps)) → IsDistinct eqb (id_after r ++ ids_given (table_after t r) steps)
distinct_accept t id version interface (Err f) steps e h rest = rest t h
distinct_accept t id version interface (Ok x) steps e h rest =
    let a = accepted_is t x.1 id version interface x.0 e in
    let is : x.0.id ≡ id = ap (λ (o : ObjectView). o.id) a.object in
    let b = bounds_peer t x.1 id version interface x.0 h a in
    IsDistinct-cons eqb x.0.id _ (each (IsFresh x.1) _ _ (λ k fresh. rw is (peer_apart t.client id k t.next_own (omega (arith, h.theirs, a.low)) a.high h.mine (rw a.table at fresh))) (all_fresh steps x.1)) (rest x.1 b)

distinct : (steps : List Step) (t : TableView) → Bounds t → IsDistinct eqb (ids_given t steps)
unfolding IsDistinct
distinct [] t h = tt
distinct (Makes interface version ∷ steps) t h = elim (ltb t.next_own (own_end t)) as (λ b. ltb t.next_own (own_end t) ≡ b → IsDistinct eqb (cond b (t.next_own ∷ []) [] ++ ids_given (cond b (with_own t interface version) t) steps)) [
  | true ↦ λ e.
      let u = with_own t interface version in
      let lt = ltb-true _ _ e in
      IsDistinct-cons eqb t.next_own _ (each (IsFresh u) _ _ (λ k fresh. own_apart t.client t.next_own k t.next_peer h.mine lt h.theirs fresh) (all_fresh steps u)) (distinct steps u (bounds_own t interface version h lt))
  | false ↦ λ e. distinct steps t h
] refl
distinct (Hears id interface version ∷ steps) t h = distinct_accept t id version interface _ steps refl h (distinct steps)
distinct (Removes id ∷ steps) t h = distinct steps (without t id) (record { mine = h.mine; mine_end = h.mine_end; theirs = h.theirs; theirs_end = h.theirs_end })

new_bounds : (client : Bool) (first : ℕ) → own_start client ≤ first → first ≤ own_limit client → Bounds (new_table client first)
new_bounds true first from to = record { mine = from; mine_end = to; theirs = omega arith; theirs_end = omega arith }
new_bounds false first from to = record { mine = from; mine_end = to; theirs = omega arith; theirs_end = omega arith }

pub given_once : (client : Bool) (first : ℕ) (steps : List Step) → own_start client ≤ first → first ≤ own_limit client → IsDistinct eqb (0 ∷ ids_given (new_table client first) steps)
given_once client first steps from to =
    let t = new_table client first in
    let h = new_bounds client first from to in
    IsDistinct-cons eqb 0 _ (each (IsFresh t) _ _ (λ k fresh. zero_apart client k first t.next_peer h.mine h.theirs fresh) (all_fresh steps t)) (distinct steps t h)
