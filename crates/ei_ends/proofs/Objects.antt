-- The objects of an end, as what it sent and what it took says.
use Rattle.std.proofs.Common.{◌≡◌, ℕ, ◌+◌, ◌≤◌, Bool, true, false, cond, ◌&&◌, ◌||◌, eqb, inl, inr, List, [], ◌∷◌, Option, Some, None, Ok, refl, sym, ap, subst}
use Rattle.std.proofs.Common.{◌∙◌, arith}
use Rattle.std.proofs.lemmas.Bool.{eqb-true, ne_eqb, or_cases, false_from_ne_true}
use Rattle.std.proofs.lemmas.Bool.Decides.{eqb_tells}
use Rattle.ei_spec.specs.Interface.{ObjectView}
use Rattle.ei_backend.specs.Table.{TableView, found, own as own_object, own_end, accept}
use Rattle.ei_backend.proofs.Objects.{get_with}
use Rattle.ei_backend.proofs.FoundAfter.{found_own, found_without}
use Rattle.ei_backend.proofs.GivenOnce.{accepted_is}
use Rattle.ei_ends.specs.Sent.{other, Sent, Got, Took, Missed, New, new_of, destroys}
use Rattle.ei_ends.specs.Announced.{or_else, if_named, is_named, announced, destroyed, first, known_by, counts, next_own}
use Rattle.ei_ends.specs.Way.{gone, HasNextId, AllSent, seen_by, HasObjects}
use Rattle.ei_ends.specs.Steps.{table_after, table_with, HasId}
use Rattle.ei_ends.proofs.Known.{or_else_first, next_more, unknown_not_destroyed}

-- ---- what one more message makes known

or_else_nothing : (a : Option New) → or_else a None ≡ a
or_else_nothing None = refl
or_else_nothing (Some n) = refl

not_named : (id : ℕ) (o : Option New) → is_named id o ≡ false → if_named id o ≡ None
not_named id None e = refl
not_named id (Some n) e = rw e refl

eq_self : (n : ℕ) → eqb n n ≡ true
eq_self n = elim (eqb_tells n n) [ inl h ↦ h.0 | inr h ↦ absurd (h.1 refl) ]

named_self : (o : Option New) (n : New) → o ≡ Some n → if_named n.id o ≡ Some n
named_self o n e = rw (e, eq_self n.id) refl

none_parts : (a b c : Option New) → or_else a (or_else b c) ≡ None → (a ≡ None) × (b ≡ None) × (c ≡ None)
none_parts None None c e = (refl, refl, e)
none_parts None (Some n) c e = absurd cc
none_parts (Some n) b c e = absurd cc

known_parts : (events : Bool) (own theirs : List Sent) (id : ℕ) → known_by events own theirs id ≡ None → (first id ≡ None) × (announced events own id ≡ None) × (announced (other events) theirs id ≡ None)
known_parts events own theirs id none = none_parts (first id) (announced events own id) (announced (other events) theirs id) none

pub own_known_same : (events : Bool) (m : Sent) (own theirs : List Sent) (id : ℕ) → is_named id (new_of events m) ≡ false → known_by events (m ∷ own) theirs id ≡ known_by events own theirs id
unfolding announced
own_known_same events m own theirs id e = rw (not_named id (new_of events m) e, or_else_nothing (announced events own id)) refl

pub own_known_new : (events : Bool) (m : Sent) (own theirs : List Sent) (n : New) → new_of events m ≡ Some n → known_by events own theirs n.id ≡ None → known_by events (m ∷ own) theirs n.id ≡ Some n
unfolding announced
own_known_new events m own theirs n e none =
    let parts = known_parts events own theirs n.id none in
    rw (parts.0, parts.1, named_self (new_of events m) n e) refl

pub their_known_same : (events : Bool) (m : Sent) (own theirs : List Sent) (id : ℕ) → is_named id (new_of (other events) m) ≡ false → known_by events own (m ∷ theirs) id ≡ known_by events own theirs id
unfolding announced
their_known_same events m own theirs id e = rw (not_named id (new_of (other events) m) e, or_else_nothing (announced (other events) theirs id)) refl

pub their_known_new : (events : Bool) (m : Sent) (own theirs : List Sent) (n : New) → new_of (other events) m ≡ Some n → known_by events own theirs n.id ≡ None → known_by events own (m ∷ theirs) n.id ≡ Some n
unfolding announced
their_known_new events m own theirs n e none =
    let parts = known_parts events own theirs n.id none in
    rw (parts.0, parts.1, parts.2, named_self (new_of (other events) m) n e) refl

-- ---- what was dropped

named_is : (id : ℕ) (o : Option New) → is_named id o ≡ true → (n : New) × (if_named id o ≡ Some n)
named_is id None e = absurd cc
named_is id (Some n) e = (n, rw e refl)

-- what a dropped message announced was announced
pub gone_announced : (events : Bool) (past : List Sent) (gots : List Got) (id : ℕ) → gone events past gots id ≡ true → (n : New) × (announced events past id ≡ Some n)
unfolding gone announced
gone_announced events [] gots id e = absurd cc
gone_announced events (m ∷ past) [] id e = absurd cc
gone_announced events (m ∷ past) (Took r after ∷ gots) id e =
    let before = gone_announced events past gots id e in
    (before.0, or_else_first _ _ before.0 before.1)
gone_announced events (m ∷ past) (Missed x after ∷ gots) id e = elim (or_cases (is_named id (new_of events m)) (gone events past gots id) e) [
  | inl p ↦
      let named = named_is id (new_of events m) p in
      elim (announced events past id) as (λ o. (n : New) × (or_else o (if_named id (new_of events m)) ≡ Some n)) [ None ↦ named | Some n ↦ (n, refl) ]
  | inr p ↦
      let before = gone_announced events past gots id p in
      (before.0, or_else_first _ _ before.0 before.1)
]

known_none : (events : Bool) (own theirs : List Sent) (id : ℕ) → known_by events own theirs id ≡ None → announced (other events) theirs id ≡ None
known_none events own theirs id none = (known_parts events own theirs id none).2

pub known_none_at : (client : Bool) (own past : List Sent) (id : ℕ) → known_by (other client) own past id ≡ None → announced client past id ≡ None
known_none_at true own past id none = known_none false own past id none
known_none_at false own past id none = known_none true own past id none

pub unknown_not_gone : (client : Bool) (own past : List Sent) (gots : List Got) (id : ℕ) → announced client past id ≡ None → gone client past gots id ≡ false
unknown_not_gone client own past gots id none = false_from_ne_true _ (λ e. let k = gone_announced client past gots id e in let both : Some k.0 ≡ None = sym k.1 ∙ none in cc)

-- ---- what the end itself sends

destroyed_more : (events : Bool) (m : Sent) (own : List Sent) (id : ℕ) → destroyed events (m ∷ own) id ≡ ((destroys events m && eqb id m.target) || destroyed events own id)
unfolding destroyed
destroyed_more events m own id = refl

out : (b d g : Bool) (o : Option ObjectView) → cond b None (cond (d || g) None o) ≡ cond ((b || d) || g) None o
out true d g o = refl
out false d g o = refl

found_after : (d : Bool) (target : ℕ) (t : TableView) (id : ℕ) → found (table_after d target t) id ≡ cond (d && eqb id target) None (found t id)
unfolding table_after
found_after true target t id = found_without t target id
found_after false target t id = refl

-- ---- a call

found_with : (client : Bool) (m : Sent) (own past : List Sent) (gots : List Got) (t : TableView) (o : Option New) (id : ℕ) → HasObjects client own past gots t → AllSent (other client) own past →
    new_of (other client) m ≡ o → HasNextId (next_own (other client) own) o → ((n : New) → o ≡ Some n → known_by (other client) own past (next_own (other client) own) ≡ None) →
    found (table_with o t) id ≡ cond (destroyed (other client) own id || gone client past gots id) None (seen_by client (known_by (other client) (m ∷ own) past id))
unfolding table_with
found_with client m own past gots t None id h all o-is fresh none =
    h.objects id ∙ ap (λ k. cond (destroyed (other client) own id || gone client past gots id) None (seen_by client k)) (sym (own_known_same (other client) m own past id (ap (is_named id) o-is)))
found_with client m own past gots t (Some n) id h all o-is fresh none = elim (eqb_tells id t.next_own) [
  | inl p ↦
      let is : id ≡ n.id = p.1 ∙ h.next ∙ sym fresh in
      let unknown : known_by (other client) own past id ≡ None = ap (known_by (other client) own past) (p.1 ∙ h.next) ∙ none n refl in
      let alive-d = unknown_not_destroyed (other client) own past id all unknown in
      let heard : announced client past id ≡ None = known_none_at client own past id unknown in
      let alive-g = unknown_not_gone client own past gots id heard in
      let known : known_by (other client) (m ∷ own) past id ≡ Some n = ap (known_by (other client) (m ∷ own) past) is ∙ own_known_new (other client) m own past n o-is (ap (known_by (other client) own past) (sym is) ∙ unknown) in
      let object : own_object t n.interface n.version ≡ record { id = n.id; interface = n.interface; version = n.version; client_side = client } = rw (h.next, sym fresh, h.client_is) refl in
      found_own t n.interface n.version id ∙ rw (p.0, alive-d, alive-g, known, object) refl
  | inr p ↦
      let other_id : is_named id (new_of (other client) m) ≡ false = ap (is_named id) o-is ∙ ne_eqb id n.id (λ e. p.1 (e ∙ fresh ∙ sym h.next)) in
      found_own t n.interface n.version id ∙ rw p.0 (h.objects id) ∙ ap (λ k. cond (destroyed (other client) own id || gone client past gots id) None (seen_by client k)) (sym (own_known_same (other client) m own past id other_id))
]

after_same : (d : Bool) (target : ℕ) (t : TableView) → ((table_after d target t).client ≡ t.client) × ((table_after d target t).next_own ≡ t.next_own) × ((table_after d target t).next_peer ≡ t.next_peer)
unfolding table_after
after_same true target t = (refl, refl, refl)
after_same false target t = (refl, refl, refl)

with_same : (o : Option New) (t : TableView) → ((table_with o t).client ≡ t.client) × ((table_with o t).next_own ≡ t.next_own + counts o) × ((table_with o t).next_peer ≡ t.next_peer)
unfolding table_with
with_same None t = (refl, omega arith, refl)
with_same (Some n) t = (refl, refl, refl)

still_ends : (o : Option New) (t : TableView) → HasId o t → t.next_own ≤ own_end t → t.next_own + counts o ≤ own_end t
unfolding HasId
still_ends None t h le = omega arith
still_ends (Some n) t h le = omega arith

end_of : (t u : TableView) → u.client ≡ t.client → own_end u ≡ own_end t
end_of t u e = rw e refl

ends_by : (t u : TableView) (o : Option New) → u.next_own ≡ t.next_own + counts o → u.client ≡ t.client → t.next_own + counts o ≤ own_end t → u.next_own ≤ own_end u
ends_by t u o next client le = let e = end_of t u client in let f : own_end u ≡ own_end t = e in subst (λ n. n ≤ own_end u) (sym next) (subst (λ n. t.next_own + counts o ≤ n) (sym f) le)

pub call_keeps : (client : Bool) (m : Sent) (own past : List Sent) (gots : List Got) (t : TableView) → HasObjects client own past gots t → AllSent (other client) own past →
    HasNextId (next_own (other client) own) (new_of (other client) m) → ((n : New) → new_of (other client) m ≡ Some n → known_by (other client) own past (next_own (other client) own) ≡ None) → HasId (new_of (other client) m) t →
    HasObjects client (m ∷ own) past gots (table_after (destroys (other client) m) m.target (table_with (new_of (other client) m) t))
call_keeps client m own past gots t h all fresh none left =
    let o = new_of (other client) m in
    let d = destroys (other client) m in
    let u = table_with o t in
    let a = after_same d m.target u in
    let w = with_same o t in
    let same = a.0 ∙ w.0 in
    record {
      client_is = same ∙ h.client_is;
      objects = λ id.
          found_after d m.target u id
          ∙ ap (cond (d && eqb id m.target) None) (found_with client m own past gots t o id h all refl fresh none)
          ∙ out (d && eqb id m.target) (destroyed (other client) own id) (gone client past gots id) (seen_by client (known_by (other client) (m ∷ own) past id))
          ∙ ap (λ x. cond (x || gone client past gots id) None (seen_by client (known_by (other client) (m ∷ own) past id))) (sym (destroyed_more (other client) m own id));
      next = a.1 ∙ w.1 ∙ ap (λ n. n + counts o) h.next ∙ sym (next_more (other client) m own);
      ends = ends_by t (table_after d m.target u) o (a.1 ∙ w.1) same (still_ends o t left h.ends);
      peer = rw (a.2, w.2) h.peer;
    }

-- ---- a message that is taken

-- the table with what the peer announced, if it did
unfoldable pub Hears : Option New → TableView → TableView → Type 0
Hears None t u = u ≡ t
Hears (Some n) t u = (o : ObjectView) × (accept t n.id n.interface n.version ≡ Ok (o, u))

gone_took : (events : Bool) (m r : Sent) (past : List Sent) (after : ℕ) (gots : List Got) (id : ℕ) → gone events (m ∷ past) (Took r after ∷ gots) id ≡ gone events past gots id
unfolding gone
gone_took events m r past after gots id = refl

gone_missed : (events : Bool) (m : Sent) (past : List Sent) (x after : ℕ) (gots : List Got) (id : ℕ) → gone events (m ∷ past) (Missed x after ∷ gots) id ≡ (is_named id (new_of events m) || gone events past gots id)
unfolding gone
gone_missed events m past x after gots id = refl

other_twice : (b : Bool) → other (other b) ≡ b
other_twice true = refl
other_twice false = refl

their_same : (client : Bool) (m : Sent) (own past : List Sent) (id : ℕ) → is_named id (new_of client m) ≡ false → known_by (other client) own (m ∷ past) id ≡ known_by (other client) own past id
their_same true m own past id e = their_known_same false m own past id e
their_same false m own past id e = their_known_same true m own past id e

their_new : (client : Bool) (m : Sent) (own past : List Sent) (n : New) → new_of client m ≡ Some n → known_by (other client) own past n.id ≡ None → known_by (other client) own (m ∷ past) n.id ≡ Some n
their_new true m own past n e none = their_known_new false m own past n e none
their_new false m own past n e none = their_known_new true m own past n e none

found_heard : (client : Bool) (m : Sent) (own past : List Sent) (gots : List Got) (t u : TableView) (o : Option New) (id : ℕ) → HasObjects client own past gots t → AllSent (other client) own past →
    new_of client m ≡ o → HasNextId (next_own client past) o → ((n : New) → o ≡ Some n → known_by (other client) own past (next_own client past) ≡ None) → Hears o t u →
    found u id ≡ cond (destroyed (other client) own id || gone client past gots id) None (seen_by client (known_by (other client) own (m ∷ past) id))
unfolding Hears
found_heard client m own past gots t u None id h all o-is fresh none heard =
    ap (λ (x : TableView). found x id) heard ∙ h.objects id ∙ ap (λ k. cond (destroyed (other client) own id || gone client past gots id) None (seen_by client k)) (sym (their_same client m own past id (ap (is_named id) o-is)))
found_heard client m own past gots t u (Some n) id h all o-is fresh none heard =
    let a = accepted_is t u n.id n.version n.interface heard.0 heard.1 in
    let there : found u id ≡ cond (eqb id n.id) (Some heard.0) (found t id) = ap (λ (x : TableView). found x id) a.table ∙ get_with t.objects n.id id heard.0 in
    elim (eqb_tells id n.id) [
      | inl p ↦
          let unknown : known_by (other client) own past id ≡ None = ap (known_by (other client) own past) (p.1 ∙ fresh) ∙ none n refl in
          let alive-d = unknown_not_destroyed (other client) own past id all unknown in
          let alive-g = unknown_not_gone client own past gots id (known_none_at client own past id unknown) in
          let known : known_by (other client) own (m ∷ past) id ≡ Some n = ap (known_by (other client) own (m ∷ past)) p.1 ∙ their_new client m own past n o-is (ap (known_by (other client) own past) (sym p.1) ∙ unknown) in
          let object : heard.0 ≡ record { id = n.id; interface = n.interface; version = n.version; client_side = client } = a.object ∙ rw h.client_is refl in
          there ∙ rw (p.0, alive-d, alive-g, known, object) refl
      | inr p ↦
          let other_id : is_named id (new_of client m) ≡ false = ap (is_named id) o-is ∙ p.0 in
          there ∙ rw p.0 (h.objects id) ∙ ap (λ k. cond (destroyed (other client) own id || gone client past gots id) None (seen_by client k)) (sym (their_same client m own past id other_id))
    ]

heard_same : (o : Option New) (t u : TableView) (next : ℕ) → HasNextId next o → Hears o t u → t.next_peer ≤ next → (u.client ≡ t.client) × (u.next_own ≡ t.next_own) × (u.next_peer ≤ next + counts o)
unfolding Hears
heard_same None t u next fresh heard le = (ap (λ (x : TableView). x.client) heard, ap (λ (x : TableView). x.next_own) heard, rw heard (omega arith))
heard_same (Some n) t u next fresh heard le =
    let a = accepted_is t u n.id n.version n.interface heard.0 heard.1 in
    (rw a.table refl, rw a.table refl, rw a.table (omega (arith, fresh)))

pub took_keeps : (client : Bool) (m r : Sent) (after : ℕ) (own past : List Sent) (gots : List Got) (t u : TableView) → HasObjects client own past gots t → AllSent (other client) own past →
    HasNextId (next_own client past) (new_of client m) → ((n : New) → new_of client m ≡ Some n → known_by (other client) own past (next_own client past) ≡ None) → Hears (new_of client m) t u →
    HasObjects client own (m ∷ past) (Took r after ∷ gots) u
took_keeps client m r after own past gots t u h all fresh none heard =
    let s = heard_same (new_of client m) t u (next_own client past) fresh heard h.peer in
    record {
      client_is = s.0 ∙ h.client_is;
      objects = λ id.
          found_heard client m own past gots t u (new_of client m) id h all refl fresh none heard
          ∙ ap (λ g. cond (destroyed (other client) own id || g) None (seen_by client (known_by (other client) own (m ∷ past) id))) (sym (gone_took client m r past after gots id));
      next = s.1 ∙ h.next;
      ends = rw (s.1, end_of t u s.0) h.ends;
      peer = omega (arith, s.2, next_more client m past);
    }

missed_by : (g : Bool) (d x : Bool) (k l : Option ObjectView) → (g ≡ true → cond (d || x) None k ≡ None) → (g ≡ false → k ≡ l) → cond (d || x) None k ≡ cond (d || (g || x)) None l
missed_by true true x k l f h = refl
missed_by true false x k l f h = f refl
missed_by false d x k l f h = ap (cond (d || x) None) (h refl)

named_some : (id : ℕ) (o : Option New) → is_named id o ≡ true → (n : New) × (o ≡ Some n)
named_some id None e = absurd cc
named_some id (Some n) e = (n, refl)

named_next : (id next : ℕ) (o : Option New) → is_named id o ≡ true → HasNextId next o → id ≡ next
named_next id next None e h = absurd cc
named_next id next (Some n) e h = eqb-true id n.id e ∙ h

none_either : (b : Bool) → cond b None (seen_by true None) ≡ None
none_either true = refl
none_either false = refl

pub missed_keeps : (client : Bool) (m : Sent) (x after : ℕ) (own past : List Sent) (gots : List Got) (t : TableView) → HasObjects client own past gots t →
    HasNextId (next_own client past) (new_of client m) → ((n : New) → new_of client m ≡ Some n → known_by (other client) own past (next_own client past) ≡ None) →
    HasObjects client own (m ∷ past) (Missed x after ∷ gots) t
missed_keeps client m x after own past gots t h fresh none =
    record {
      client_is = h.client_is;
      objects = λ id.
          h.objects id
          ∙ missed_by (is_named id (new_of client m)) (destroyed (other client) own id) (gone client past gots id) (seen_by client (known_by (other client) own past id)) (seen_by client (known_by (other client) own (m ∷ past) id))
          (λ named.
          let same = named_next id (next_own client past) (new_of client m) named fresh in
          let unknown : known_by (other client) own past id ≡ None = ap (known_by (other client) own past) same ∙ (let some = named_some id (new_of client m) named in none some.0 some.1) in
          rw unknown (none_either (destroyed (other client) own id || gone client past gots id)))
          (λ apart. ap (seen_by client) (sym (their_same client m own past id apart)))
          ∙ ap (λ g. cond (destroyed (other client) own id || g) None (seen_by client (known_by (other client) own (m ∷ past) id))) (sym (gone_missed client m past x after gots id));
      next = h.next;
      ends = h.ends;
      peer = omega (arith, h.peer, next_more client m past);
    }
