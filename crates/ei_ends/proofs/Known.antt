-- Which objects messages announced, and their ids.
use Rattle.std.proofs.Common.{◌≡◌, ℕ, ◌+◌, ◌<◌, ◌≤◌, Bool, true, false, ◌&&◌, eqb, ◌⊎◌, inl, inr, List, [], ◌∷◌, Option, Some, None, refl, sym, ap, ◌∙◌, arith}
use Rattle.std.proofs.lemmas.Bool.{eqb-true, ne_eqb, or_cases, and_parts, false_from_ne_true}
use Rattle.std.proofs.lemmas.Option.{cond_some}
use Rattle.ei_backend.specs.Table.{own_start, own_limit}
use Rattle.ei_ends.specs.Sent.{other, Sent, New, new_of, destroys}
use Rattle.ei_ends.specs.Announced.{or_else, if_named, announced, destroyed, first, known_by, counts, next_own}
use Rattle.ei_ends.specs.Way.{onto, HasNextId, AllSent}

-- ---- options

pub or_else_some : (a b : Option New) (n : New) → or_else a b ≡ Some n → (a ≡ Some n) ⊎ ((a ≡ None) × (b ≡ Some n))
or_else_some None b n e = inr (refl, e)
or_else_some (Some x) b n e = inl e

pub or_else_first : (a b : Option New) (n : New) → a ≡ Some n → or_else a b ≡ Some n
or_else_first a b n e = rw e refl

pub or_else_none : (a b : Option New) → a ≡ None → or_else a b ≡ b
or_else_none a b e = rw e refl

pub if_named_some : (id : ℕ) (o : Option New) (n : New) → if_named id o ≡ Some n → (o ≡ Some n) × (n.id ≡ id)
if_named_some id None n e = absurd cc
if_named_some id (Some x) n e =
    let c = cond_some (eqb id x.id) x n e in
    (ap Some c.1, ap (λ (y : New). y.id) (sym c.1) ∙ sym (eqb-true id x.id c.0))

pub next_counts : (next : ℕ) (o : Option New) (n : New) → HasNextId next o → o ≡ Some n → (n.id ≡ next) × (counts o ≡ 1)
next_counts next None n h e = absurd cc
next_counts next (Some x) n h e =
    let same : x ≡ n = cc in
    (ap (λ (y : New). y.id) (sym same) ∙ h, refl)

-- ---- what these messages announced

-- each new object has the next own id
abbrev pub Rising : Bool → List Sent → Type 0
Rising events [] = Unit {0}
Rising events (m ∷ past) = HasNextId (next_own events past) (new_of events m) × Rising events past

pub rising : (events : Bool) (sent theirs : List Sent) → AllSent events sent theirs → Rising events sent
unfolding AllSent
rising events [] theirs h = tt
rising events (m ∷ past) theirs h = (h.0.fresh, rising events past theirs h.1)

pub announced_more : (events : Bool) (m : Sent) (past : List Sent) (id : ℕ) (n : New) → announced events past id ≡ Some n → announced events (m ∷ past) id ≡ Some n
unfolding announced
announced_more events m past id n e = or_else_first _ _ n e

pub announced_onto : (events : Bool) (ms past : List Sent) (id : ℕ) (n : New) → announced events past id ≡ Some n → announced events (onto ms past) id ≡ Some n
announced_onto events [] past id n e = e
announced_onto events (m ∷ ms) past id n e = announced_onto events ms (m ∷ past) id n (announced_more events m past id n e)

pub next_more : (events : Bool) (m : Sent) (past : List Sent) → next_own events (m ∷ past) ≡ next_own events past + counts (new_of events m)
unfolding next_own
next_more events m past = refl

pub next_onto : (events : Bool) (ms past : List Sent) → next_own events past ≤ next_own events (onto ms past)
next_onto events [] past = omega arith
next_onto events (m ∷ ms) past = omega (arith, next_onto events ms (m ∷ past), next_more events m past)

pub record InRange (events : Bool) (sent : List Sent) (id : ℕ) (n : New) : Type 0 where
  pub id_is : n.id ≡ id
  pub low : own_start (other events) ≤ id
  pub high : id < next_own events sent

pub next_low : (events : Bool) (sent : List Sent) → own_start (other events) ≤ next_own events sent
unfolding next_own
next_low events [] = omega arith
next_low events (m ∷ past) = omega (arith, next_low events past)

pub in_range : (events : Bool) (sent : List Sent) (id : ℕ) (n : New) → Rising events sent → announced events sent id ≡ Some n → InRange events sent id n
unfolding announced
in_range events [] id n h e = absurd cc
in_range events (m ∷ past) id n h e = elim (or_else_some _ _ n e) [
  | inl p ↦
      let before = in_range events past id n h.1 p in
      record { id_is = before.id_is; low = before.low; high = omega (arith, before.high, next_more events m past) }
  | inr p ↦
      let named = if_named_some id (new_of events m) n p.1 in
      let next = next_counts _ _ n h.0 named.0 in
      record { id_is = named.1; low = omega (arith, next_low events past, named.1, next.0); high = omega (arith, named.1, next.0, next.1, next_more events m past) }
]

none_or_some : (o : Option New) → ((n : New) → o ≡ Some n → ⊥) → o ≡ None
none_or_some None f = refl
none_or_some (Some n) f = absurd (f n refl)

pub not_below : (events : Bool) (sent : List Sent) (id : ℕ) → Rising events sent → id < own_start (other events) → announced events sent id ≡ None
not_below events sent id h lt = none_or_some _ (λ n e. let r = in_range events sent id n h e in omega (arith, r.low, lt))

pub not_yet : (events : Bool) (sent : List Sent) (id : ℕ) → Rising events sent → next_own events sent ≤ id → announced events sent id ≡ None
not_yet events sent id h le = none_or_some _ (λ n e. let r = in_range events sent id n h e in omega (arith, r.high, le))

-- ---- the ranges of the two ends

-- the own ids of the ends that sent these
pub record Apart (events : Bool) (sent own : List Sent) : Type 0 where
  pub sent_rises : Rising events sent
  pub own_rises : Rising (other events) own
  pub sent_ends : next_own events sent ≤ own_limit (other events)
  pub own_ends : next_own (other events) own ≤ own_limit events

-- what one end announced the other did not
pub apart : (events : Bool) (sent own : List Sent) (id : ℕ) (n : New) → Apart events sent own → announced events sent id ≡ Some n → announced (other events) own id ≡ None
apart true sent own id n h e =
    let r = in_range true sent id n h.sent_rises e in
    not_yet false own id h.own_rises (omega (arith, r.low, h.own_ends))
apart false sent own id n h e =
    let r = in_range false sent id n h.sent_rises e in
    not_below true own id h.own_rises (omega (arith, r.high, h.sent_ends))

-- what a new object's id is not
pub new_apart : (events : Bool) (sent own : List Sent) → Apart events sent own → next_own events sent < own_limit (other events) → announced (other events) own (next_own events sent) ≡ None
new_apart true sent own h lt = not_yet false own (next_own true sent) h.own_rises (omega (arith, next_low true sent, h.own_ends))
new_apart false sent own h lt = not_below true own (next_own false sent) h.own_rises (omega (arith, lt))

pub not_zero : (id : ℕ) → 1 ≤ id → first id ≡ None
not_zero id le = rw (ne_eqb id 0 (λ e. omega arith)) refl

start_low : (events : Bool) → 1 ≤ own_start events
start_low true = omega arith
start_low false = omega arith

-- a new object's id is not known
pub new_unknown : (events : Bool) (sent own : List Sent) → Apart events sent own → next_own events sent < own_limit (other events) → known_by events sent own (next_own events sent) ≡ None
new_unknown events sent own h lt =
    let zero = not_zero (next_own events sent) (omega (arith, start_low (other events), next_low events sent)) in
    rw (zero, not_yet events sent (next_own events sent) h.sent_rises (omega arith), new_apart events sent own h lt) refl

-- and not to its reader
pub new_unheard : (events : Bool) (sent own : List Sent) → Apart events sent own → next_own events sent < own_limit (other events) → known_by (other events) own sent (next_own events sent) ≡ None
new_unheard true sent own h lt =
    let zero = not_zero (next_own true sent) (omega (arith, next_low true sent)) in
    rw (zero, new_apart true sent own h lt, not_yet true sent (next_own true sent) h.sent_rises (omega arith)) refl
new_unheard false sent own h lt =
    let zero = not_zero (next_own false sent) (omega (arith, next_low false sent)) in
    rw (zero, new_apart false sent own h lt, not_yet false sent (next_own false sent) h.sent_rises (omega arith)) refl

-- ---- what is known stays known

pub known_more : (events : Bool) (own : List Sent) (m : Sent) (theirs : List Sent) (id : ℕ) (n : New) → known_by events own theirs id ≡ Some n → known_by events own (m ∷ theirs) id ≡ Some n
known_more events own m theirs id n e = elim (or_else_some (first id) _ n e) [
  | inl p ↦ or_else_first _ _ n p
  | inr p ↦ elim (or_else_some (announced events own id) _ n p.1) [
    | inl q ↦ rw (p.0, q) refl
    | inr q ↦ rw (p.0, q.0) (announced_more (other events) m theirs id n q.1)
  ]
]

pub all_sent_more : (events : Bool) (sent : List Sent) (m : Sent) (theirs : List Sent) → AllSent events sent theirs → AllSent events sent (m ∷ theirs)
unfolding AllSent
all_sent_more events [] m theirs h = tt
all_sent_more events (s ∷ past) m theirs h = (
  record { row = h.0.row; call = h.0.call; knows = known_more events past m theirs s.target _ h.0.knows; fresh = h.0.fresh },
  all_sent_more events past m theirs h.1,
)

pub all_sent_onto : (events : Bool) (ms past theirs : List Sent) → AllSent events (onto ms past) theirs → AllSent events past theirs
unfolding AllSent
all_sent_onto events [] past theirs h = h
all_sent_onto events (m ∷ ms) past theirs h = (all_sent_onto events ms (m ∷ past) theirs h).1

-- ---- what was destroyed was known

pub known_own_more : (events : Bool) (own theirs : List Sent) (m : Sent) (id : ℕ) (n : New) → known_by events own theirs id ≡ Some n → (k : New) × (known_by events (m ∷ own) theirs id ≡ Some k)
unfolding announced
known_own_more events own theirs m id n e = elim (or_else_some (first id) _ n e) [
  | inl p ↦ (n, or_else_first _ _ n p)
  | inr p ↦ elim (or_else_some (announced events own id) _ n p.1) [
    | inl q ↦ (n, rw (p.0, q) refl)
    | inr q ↦ elim (if_named id (new_of events m)) as (λ o. (k : New) × (or_else (first id) (or_else (or_else (announced events own id) o) (announced (other events) theirs id)) ≡ Some k)) [
      | None ↦ (n, rw (p.0, q.0) q.1)
      | Some k ↦ (k, rw (p.0, q.0) refl)
    ]
  ]
]

pub destroyed_known : (events : Bool) (own theirs : List Sent) (id : ℕ) → AllSent events own theirs → destroyed events own id ≡ true → (k : New) × (known_by events own theirs id ≡ Some k)
unfolding AllSent destroyed
destroyed_known events [] theirs id h e = absurd cc
destroyed_known events (m ∷ past) theirs id h e = elim (or_cases (destroys events m && (eqb id m.target)) (destroyed events past id) e) [
  | inl p ↦
      let target : id ≡ m.target = eqb-true id m.target (and_parts _ _ p).1 in
      known_own_more events past theirs m id _ (ap (λ (t : ℕ). known_by events past theirs t) target ∙ h.0.knows)
  | inr p ↦
      let before = destroyed_known events past theirs id h.1 p in
      known_own_more events past theirs m id before.0 before.1
]

-- so what nobody knows isn't destroyed
pub unknown_not_destroyed : (events : Bool) (own theirs : List Sent) (id : ℕ) → AllSent events own theirs → known_by events own theirs id ≡ None → destroyed events own id ≡ false
unknown_not_destroyed events own theirs id h none = false_from_ne_true _ (λ e. let k = destroyed_known events own theirs id h e in let both : Some k.0 ≡ None = sym k.1 ∙ none in cc)

pub rising_onto : (events : Bool) (ms past : List Sent) → Rising events (onto ms past) → Rising events past
rising_onto events [] past h = h
rising_onto events (m ∷ ms) past h = (rising_onto events ms (m ∷ past) h).1
