-- The own objects of a table and the others: where an id is looked up, and what an object that comes or goes changes.
use Rattle.std.proofs.Common.{◌≡◌, ◌≤◌, ◌<◌, ◌+◌, ◌^◌, inl, inr, eqb, ltb, leb, Ok, arith, ℕ, Bool, true}
use Rattle.std.proofs.Common.{false, cond, List, [], ◌∷◌, ◌++◌, Option, Some, None, IfSome, Bor, refl, sym, ap, ◌∙◌, append_assoc}
use Rattle.std.specs.Option.{option_or}
use Rattle.std.specs.Ordering.{nat_cmp}
use Rattle.std.specs.FinMap.{FinMap, get, insert, remove}
use Rattle.std.proofs.lemmas.Bool.{le-ltb}
use Rattle.std.proofs.lemmas.Bool.Decides.{nat_tests, eqb_tells}
use Rattle.std.proofs.lemmas.List.{append-nil}
use Rattle.ei_spec.specs.Interface.{Interface, ObjectView}
use Rattle.ei_backend.specs.Table.{TableView, RiseWithin, Rise, by_id, is_own, own_end, peer_end, table_of, StandsInOrder}
use Rattle.ei_backend.specs.Table.{first_server_id, first_object, own_start, own_limit, accept, found, own, with_own, without}
use Rattle.ei_backend.proofs.Objects.{at, get_at, range_le, widened, below_range, above_range, same_objects, get_with, get_without}
use Rattle.ei_backend.proofs.FirstObject.{first_kept, first_left, first_there, first_found}

at_both : (xs ys : List ObjectView) (q : ℕ) → at q (xs ++ ys) ≡ option_or (at q xs) (at q ys)
at_both [] ys q = refl
at_both (o ∷ xs) ys q = elim (eqb q o.id) as (λ b. cond b (Some o) (at q (xs ++ ys)) ≡ option_or (cond b (Some o) (at q xs)) (at q ys)) [ true ↦ refl | false ↦ at_both xs ys q ]

or_none : (x : Option ObjectView) → option_or x None ≡ x
or_none None = refl
or_none (Some o) = refl

gone_left : (q k : ℕ) (x y : Option ObjectView) → (q ≡ k → y ≡ None) → option_or (cond (eqb q k) None x) y ≡ cond (eqb q k) None (option_or x y)
gone_left q k x y none = elim (eqb_tells q k) [ inl p ↦ rw p.0 (none p.1) | inr p ↦ rw p.0 refl ]

gone_right : (q k : ℕ) (x y : Option ObjectView) → (q ≡ k → x ≡ None) → option_or x (cond (eqb q k) None y) ≡ cond (eqb q k) None (option_or x y)
gone_right q k x y none = elim (eqb_tells q k) [ inl p ↦ rw (p.0, none p.1) refl | inr p ↦ rw p.0 refl ]

-- ---- where an id is looked up

module _ (t : TableView) (own peer : List ObjectView) (places : ℕ) (h : StandsInOrder t own peer places) where
  none_in_peer : (q : ℕ) → is_own t.client q ≡ true → at q peer ≡ None
  none_in_peer q is = elim t.client as (λ b. is_own b q ≡ true → RiseWithin (cond b first_server_id 0) t.next_peer peer → t.next_peer ≤ cond b 18446744073709551615 first_server_id → at q peer ≡ None) [
    | true ↦ λ i r e. below_range peer first_server_id t.next_peer q r (grind (arith, nat_tests))
    | false ↦ λ i r e. above_range peer 0 t.next_peer q r (grind (arith, nat_tests))
  ] is h.peer_rises h.peer_ends

  none_in_own : (q : ℕ) → is_own t.client q ≡ false → at q own ≡ None
  none_in_own q is = elim t.client as (λ b. is_own b q ≡ false → RiseWithin (cond b 0 first_server_id) t.next_own own → t.next_own ≤ cond b first_server_id 18446744073709551615 → at q own ≡ None) [
    | true ↦ λ i r e. above_range own 0 t.next_own q r (grind (arith, nat_tests))
    | false ↦ λ i r e. below_range own first_server_id t.next_own q r (grind (arith, nat_tests))
  ] is h.own_rises h.own_ends

  pub found_own : (q : ℕ) → is_own t.client q ≡ true → get (by_id own) q ≡ get (by_id (own ++ peer)) q
  found_own q is = get_at own q ∙ sym (get_at (own ++ peer) q ∙ at_both own peer q ∙ ap (option_or (at q own)) (none_in_peer q is) ∙ or_none (at q own))

  pub found_peer : (q : ℕ) → is_own t.client q ≡ false → get (by_id peer) q ≡ get (by_id (own ++ peer)) q
  found_peer q is = get_at peer q ∙ sym (get_at (own ++ peer) q ∙ at_both own peer q ∙ ap (λ (x : Option ObjectView). option_or x (at q peer)) (none_in_own q is))

  -- an object that stands in one of the two vectors is that of its id
  pub held_own : (q : ℕ) (o : ObjectView) → Some o ≡ get (by_id own) q → Some o ≡ get (by_id (own ++ peer)) q
  held_own q o is = elim (is_own t.client q) as (λ b. is_own t.client q ≡ b → Some o ≡ get (by_id (own ++ peer)) q) [
    | true ↦ λ e. is ∙ found_own q e
    | false ↦ λ e. let none = is ∙ get_at own q ∙ none_in_own q e in cc
  ] refl

  pub held_peer : (q : ℕ) (o : ObjectView) → Some o ≡ get (by_id peer) q → Some o ≡ get (by_id (own ++ peer)) q
  held_peer q o is = elim (is_own t.client q) as (λ b. is_own t.client q ≡ b → Some o ≡ get (by_id (own ++ peer)) q) [
    | true ↦ λ e. let none = is ∙ get_at peer q ∙ none_in_peer q e in cc
    | false ↦ λ e. is ∙ found_peer q e
  ] refl

  -- the same of a look-up that may find nothing
  pub if_own : (q : ℕ) (r : Option (Bor ObjectView)) → IfSome r (λ o. Some o.now ≡ get (by_id own) q) → IfSome r (λ o. Some o.now ≡ get (by_id (own ++ peer)) q)
  if_own q None is = tt
  if_own q (Some o) is = held_own q o.now is

  pub if_peer : (q : ℕ) (r : Option (Bor ObjectView)) → IfSome r (λ o. Some o.now ≡ get (by_id peer) q) → IfSome r (λ o. Some o.now ≡ get (by_id (own ++ peer)) q)
  if_peer q None is = tt
  if_peer q (Some o) is = held_peer q o.now is

  -- what is found at 0 is the first object
  pub if_first : (q : ℕ) (r : Option (Bor ObjectView)) → IfSome r (λ o. Some o.now ≡ found t q) → q ≡ 0 → IfSome r (λ o. o.now ≡ first_object t.client)
  if_first q None is zero = tt
  if_first q (Some o) is zero = first_found t q (Some o) h.first is zero

  pub own_ordered : Rise own
  own_ordered = widened own _ t.next_own 0 (2 ^ 64) h.own_rises (omega arith) (elim t.client as (λ b. t.next_own ≤ cond b first_server_id 18446744073709551615 → t.next_own ≤ 2 ^ 64) [ true ↦ λ e. omega arith | false ↦ λ e. omega arith ] h.own_ends)

  pub peer_ordered : Rise peer
  peer_ordered = widened peer _ t.next_peer 0 (2 ^ 64) h.peer_rises (omega arith) (elim t.client as (λ b. t.next_peer ≤ cond b 18446744073709551615 first_server_id → t.next_peer ≤ 2 ^ 64) [ true ↦ λ e. omega arith | false ↦ λ e. omega arith ] h.peer_ends)

-- ---- an object comes

rises_more : (os : List ObjectView) (from end end' : ℕ) (o : ObjectView) → RiseWithin from end os → end ≤ o.id → end' ≡ o.id + 1 → RiseWithin from end' (os ++ o ∷ [])
rises_more [] from end end' o h le e = (omega (arith, h), omega arith)
rises_more (x ∷ os) from end end' o h le e = (h.0, rises_more os (x.id + 1) end end' o h.1 le e)

at_more : (xs ys : List ObjectView) (q : ℕ) (o : ObjectView) → at o.id xs ≡ None → at q (xs ++ (o ∷ ys)) ≡ cond (eqb q o.id) (Some o) (at q (xs ++ ys))
at_more [] ys q o none = refl
at_more (x ∷ xs) ys q o none = grind (arith, nat_tests, at_more xs ys q o)

-- the object of id k is put into one of the vectors, where no object had the id
put_own : (own peer : List ObjectView) (o : ObjectView) → at o.id own ≡ None → by_id ((own ++ o ∷ []) ++ peer) ≡ insert (by_id (own ++ peer)) o.id o
put_own own peer o none = same_objects _ _ (λ q.
    ap (λ (l : List ObjectView). get (by_id l) q) (append_assoc own (o ∷ []) peer) ∙ get_at (own ++ (o ∷ peer)) q ∙ at_more own peer q o none
    ∙ ap (cond (eqb q o.id) (Some o)) (sym (get_at (own ++ peer) q)) ∙ sym (get_with (by_id (own ++ peer)) o.id q o))

put_peer : (own peer : List ObjectView) (o : ObjectView) → at o.id (own ++ peer) ≡ None → by_id (own ++ (peer ++ o ∷ [])) ≡ insert (by_id (own ++ peer)) o.id o
put_peer own peer o none = same_objects _ _ (λ q.
    ap (λ (l : List ObjectView). get (by_id l) q) (sym (append_assoc own peer (o ∷ []))) ∙ get_at ((own ++ peer) ++ o ∷ []) q ∙ at_more (own ++ peer) [] q o none
    ∙ ap (λ (l : List ObjectView). cond (eqb q o.id) (Some o) (at q l)) (append-nil (own ++ peer)) ∙ ap (cond (eqb q o.id) (Some o)) (sym (get_at (own ++ peer) q)) ∙ sym (get_with (by_id (own ++ peer)) o.id q o))

module _ (row peer : List ObjectView) (next_own next_peer : ℕ) (client : Bool) (room places : ℕ) (h : StandsInOrder (table_of row peer next_own next_peer client room) row peer places) where
  -- the next own object comes
  own_comes : (o : ObjectView) → o.id ≡ next_own → by_id ((row ++ o ∷ []) ++ peer) ≡ insert (by_id (row ++ peer)) next_own o
  own_comes o is = put_own row peer o (above_range row _ next_own o.id h.own_rises (omega arith)) ∙ ap (λ (k : ℕ). insert (by_id (row ++ peer)) k o) is

  pub own_given : (interface : Interface) (version : ℕ) (o : ObjectView) (row' : List ObjectView) → o ≡ own (table_of row peer next_own next_peer client room) interface version → row' ≡ row ++ o ∷ [] →
      (o ≡ own (table_of row peer next_own next_peer client room) interface version) × (table_of row' peer (next_own + 1) next_peer client room ≡ with_own (table_of row peer next_own next_peer client room) interface version)
  own_given interface version o row' made is =
      let comes = own_comes o (ap (λ (x : ObjectView). x.id) made) in
      (made, rw (is, comes, made) refl)

  pub own_stands : (o : ObjectView) (row' : List ObjectView) (places' : ℕ) → o.id ≡ next_own → row' ≡ row ++ o ∷ [] → next_own < own_end (table_of row peer next_own next_peer client room) →
      places ≤ places' + 1 → StandsInOrder (table_of row' peer (next_own + 1) next_peer client room) row' peer places'
  own_stands o row' places' id is lt left = record {
    first = first_kept (by_id (row ++ peer)) (by_id (row' ++ peer)) next_own o _ _ _ _ _ _ _ h.first (rw is (own_comes o id)) h.first.own (omega arith) h.first.peer;
    own_rises = rw is (rises_more row _ next_own (next_own + 1) o h.own_rises (omega arith) (omega arith));
    peer_rises = h.peer_rises;
    own_ends = omega arith;
    peer_ends = h.peer_ends;
    room = λ below. omega (arith, h.room (omega arith));
  }

  -- an object of the peer comes
  not_there : (q : ℕ) → next_peer ≤ q → q < peer_end (table_of row peer next_own next_peer client room) → at q (row ++ peer) ≡ None
  not_there q low high = at_both row peer q ∙ elim client as (λ b. RiseWithin (cond b 0 first_server_id) next_own row → next_own ≤ cond b first_server_id 18446744073709551615 → RiseWithin (cond b first_server_id 0) next_peer peer → q < cond b 18446744073709551615 first_server_id → option_or (at q row) (at q peer) ≡ None) [
    | true ↦ λ r e s lt. rw (above_range row 0 next_own q r (omega (arith, range_le peer first_server_id next_peer s)), above_range peer first_server_id next_peer q s low) refl
    | false ↦ λ r e s lt. rw (below_range row first_server_id next_own q r (omega arith), above_range peer 0 next_peer q s low) refl
  ] h.own_rises h.own_ends h.peer_rises high

  peer_comes : (o : ObjectView) (id : ℕ) → o.id ≡ id → next_peer ≤ id → id < peer_end (table_of row peer next_own next_peer client room) → by_id (row ++ (peer ++ o ∷ [])) ≡ insert (by_id (row ++ peer)) id o
  peer_comes o id is low high = put_peer row peer o (ap (λ (k : ℕ). at k (row ++ peer)) is ∙ not_there id low high) ∙ ap (λ (k : ℕ). insert (by_id (row ++ peer)) k o) is

  -- an id that passes both tests is accepted
  pub peer_given : (id end : ℕ) (interface : Interface) (version : ℕ) (o : ObjectView) (peer' : List ObjectView) → o ≡ record { id = id; interface = interface; version = version; client_side = client } →
      peer' ≡ peer ++ o ∷ [] → next_peer ≤ id → id < end → end ≡ peer_end (table_of row peer next_own next_peer client room) →
      accept (table_of row peer next_own next_peer client room) id interface version ≡ Ok (o, table_of row peer' next_own (id + 1) client room)
  peer_given id end interface version o peer' made is low high ends =
      let comes = peer_comes o id (ap (λ (x : ObjectView). x.id) made) low (omega arith) in
      let first : ltb id next_peer ≡ false = le-ltb id next_peer low in
      let below : leb end id ≡ false = grind (arith, nat_tests) in
      let second : leb (peer_end (table_of row peer next_own next_peer client room)) id ≡ false = rw (← ends) below in
      rw (first, second, is, comes, made) refl

  pub peer_stands : (id : ℕ) (o : ObjectView) (peer' : List ObjectView) → o.id ≡ id → peer' ≡ peer ++ o ∷ [] → next_peer ≤ id → id < peer_end (table_of row peer next_own next_peer client room) →
      StandsInOrder (table_of row peer' next_own (id + 1) client room) row peer' places
  peer_stands id o peer' is same low high = record {
    first = first_kept (by_id (row ++ peer)) (by_id (row ++ peer')) id o _ _ _ _ _ _ _ h.first (rw same (peer_comes o id is low high)) (omega (arith, h.first.peer)) h.first.own (omega arith);
    own_rises = h.own_rises;
    peer_rises = rw same (rises_more peer _ next_peer (id + 1) o h.peer_rises (omega arith) (omega arith));
    own_ends = h.own_ends;
    peer_ends = omega arith;
    room = h.room;
  }

  -- an object goes
  own_goes : (row' : List ObjectView) (k : ℕ) → is_own client k ≡ true → by_id row' ≡ remove (by_id row) k → by_id (row' ++ peer) ≡ remove (by_id (row ++ peer)) k
  own_goes row' k is gone = same_objects _ _ (λ q.
      let left = sym (get_at row' q) ∙ ap (λ (m : FinMap nat_cmp ObjectView). get m q) gone ∙ get_without (by_id row) k q ∙ ap (cond (eqb q k) None) (get_at row q) in
      get_at (row' ++ peer) q ∙ at_both row' peer q ∙ ap (λ (x : Option ObjectView). option_or x (at q peer)) left
      ∙ gone_left q k (at q row) (at q peer) (λ same. ap (λ (j : ℕ). at j peer) same ∙ none_in_peer _ row peer places h k is)
      ∙ ap (cond (eqb q k) None) (sym (get_at (row ++ peer) q ∙ at_both row peer q)) ∙ sym (get_without (by_id (row ++ peer)) k q))

  peer_goes : (peer' : List ObjectView) (k : ℕ) → is_own client k ≡ false → by_id peer' ≡ remove (by_id peer) k → by_id (row ++ peer') ≡ remove (by_id (row ++ peer)) k
  peer_goes peer' k is gone = same_objects _ _ (λ q.
      let left = sym (get_at peer' q) ∙ ap (λ (m : FinMap nat_cmp ObjectView). get m q) gone ∙ get_without (by_id peer) k q ∙ ap (cond (eqb q k) None) (get_at peer q) in
      get_at (row ++ peer') q ∙ at_both row peer' q ∙ ap (λ (x : Option ObjectView). option_or (at q row) x) left
      ∙ gone_right q k (at q row) (at q peer) (λ same. ap (λ (j : ℕ). at j row) same ∙ none_in_own _ row peer places h k is)
      ∙ ap (cond (eqb q k) None) (sym (get_at (row ++ peer) q ∙ at_both row peer q)) ∙ sym (get_without (by_id (row ++ peer)) k q))

  abbrev this : TableView
  this = table_of row peer next_own next_peer client room

  pub own_gone : (row' : List ObjectView) (k : ℕ) → is_own client k ≡ true → by_id row' ≡ remove (by_id row) k → table_of row' peer next_own next_peer client room ≡ without this k
  own_gone row' k is gone = rw (own_goes row' k is gone) refl

  pub peer_gone : (peer' : List ObjectView) (k : ℕ) → is_own client k ≡ false → by_id peer' ≡ remove (by_id peer) k → table_of row peer' next_own next_peer client room ≡ without this k
  peer_gone peer' k is gone = rw (peer_goes peer' k is gone) refl

  pub own_left : (row' : List ObjectView) (k places' : ℕ) → is_own client k ≡ true → by_id row' ≡ remove (by_id row) k → ((from end : ℕ) → RiseWithin from end row → RiseWithin from end row') →
      places ≤ places' → StandsInOrder (table_of row' peer next_own next_peer client room) row' peer places'
  own_left row' k places' is gone rises left = record {
    first = first_left _ _ k _ _ _ _ h.first (own_goes row' k is gone);
    own_rises = rises _ _ h.own_rises;
    peer_rises = h.peer_rises;
    own_ends = h.own_ends;
    peer_ends = h.peer_ends;
    room = λ below. omega (arith, h.room below);
  }

  pub peer_left : (peer' : List ObjectView) (k : ℕ) → is_own client k ≡ false → by_id peer' ≡ remove (by_id peer) k → ((from end : ℕ) → RiseWithin from end peer → RiseWithin from end peer') →
      StandsInOrder (table_of row peer' next_own next_peer client room) row peer' places
  peer_left peer' k is gone rises = record {
    first = first_left _ _ k _ _ _ _ h.first (peer_goes peer' k is gone);
    own_rises = h.own_rises;
    peer_rises = rises _ _ h.peer_rises;
    own_ends = h.own_ends;
    peer_ends = h.peer_ends;
    room = h.room;
  }

-- a new table
pub new_client : (row peer : List ObjectView) (client : Bool) (next_own places : ℕ) (o : ObjectView) → client ≡ true → o ≡ first_object client → row ≡ o ∷ [] → peer ≡ [] →
    own_start client ≤ next_own → next_own ≤ own_limit client → StandsInOrder (table_of row peer next_own first_server_id client 0) row peer places
new_client row peer client next_own places o is_client is low high from to =
    rw (low, high, is, is_client) (record {
      first = first_there _ _ _ true 0 refl (rw is_client at from) (omega arith);
      own_rises = (omega arith, rw is_client at from);
      peer_rises = omega arith;
      own_ends = rw is_client at to;
      peer_ends = omega arith;
      room = λ below. omega (arith, below);
    })

pub new_server : (row peer : List ObjectView) (client : Bool) (next_own places : ℕ) (o : ObjectView) → client ≡ false → o ≡ first_object client → row ≡ [] → peer ≡ o ∷ [] →
    own_start client ≤ next_own → next_own ≤ own_limit client → StandsInOrder (table_of row peer next_own 1 client 0) row peer places
new_server row peer client next_own places o is_server is high low from to =
    let start : first_server_id ≤ next_own = rw is_server at from in
    rw (low, high, is, is_server) (record {
      first = first_there _ _ _ false 0 refl (omega (arith, start)) (omega arith);
      own_rises = start;
      peer_rises = (omega arith, omega arith);
      own_ends = rw is_server at to;
      peer_ends = omega arith;
      room = λ below. omega (arith, below);
    })
