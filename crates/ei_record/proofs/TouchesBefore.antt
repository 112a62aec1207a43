-- The touches of a device that are down among some items: each once, and no others.
use Rattle.std.proofs.Common.{◌≡◌, ℕ, Bool, true, false, cond, ◌&&◌, ◌||◌, eqb, List, [], ◌∷◌, ◌++◌, length, Option, Some, None, refl, sym, ap, ◌∙◌, eq-eqb}
use Rattle.std.specs.Prelude.{unwrap_or, nat_eq}
use Rattle.std.specs.List.{filter, list_any, IsDistinct, AllByRecursion}
use Rattle.std.specs.Set.{unique_keys}
use Rattle.std.proofs.lemmas.Bool.{eqb-true}
use Rattle.std.proofs.lemmas.Cmp.{nat_eq_equiv}
use Rattle.std.proofs.lemmas.List.Folds.{list_any-append}
use Rattle.std.proofs.lemmas.Map.Made.{is_member-filter, length-from_same_keys}
use Rattle.ei_spec.specs.History.{joined, last_said}
use Rattle.ei_spec.specs.Groups.{Timed, Framed, Plain as Given}
use Rattle.ei_input.specs.declared.input_event.InputEvent.{InputEvent}
use Rattle.ei_input.specs.declared.input_event.InputEvent.TheVariants as input_event
use Rattle.ei_session.specs.Requests.{Request}
use Rattle.ei_session.specs.Touches.{said_by, put_by}
use Rattle.ei_session.proofs.Choices.{none_some}
use Rattle.ei_record.specs.Replayable.{says_touch, touch_is_down, puts_touch, touches_before}

-- ---- lists without repetition

apart : (x : ℕ) (ys : List ℕ) → list_any (nat_eq x) ys ≡ false → AllByRecursion (λ y. nat_eq x y ≡ false) ys
apart x [] h = tt
apart x (y ∷ ys) h = by (nat_eq x y) refl h (apart x ys)
  where
    by : (b : Bool) → nat_eq x y ≡ b → (b || list_any (nat_eq x) ys) ≡ false → (list_any (nat_eq x) ys ≡ false → AllByRecursion (λ z. nat_eq x z ≡ false) ys) → AllByRecursion (λ z. nat_eq x z ≡ false) (y ∷ ys)
    by true e h next = absurd cc
    by false e h next = (e, next h)

member_unique : (q : ℕ) (xs : List ℕ) → list_any (nat_eq q) (unique_keys nat_eq xs) ≡ list_any (nat_eq q) xs
member_unique q [] = refl
member_unique q (x ∷ xs) = by (list_any (nat_eq x) xs) (nat_eq q x) refl refl (member_unique q xs)
  where
    by : (b c : Bool) → list_any (nat_eq x) xs ≡ b → nat_eq q x ≡ c → list_any (nat_eq q) (unique_keys nat_eq xs) ≡ list_any (nat_eq q) xs → list_any (nat_eq q) (unique_keys nat_eq (x ∷ xs)) ≡ list_any (nat_eq q) (x ∷ xs)
    by true true e f next = let there : list_any (nat_eq q) xs ≡ true = ap (λ (z : ℕ). list_any (nat_eq z) xs) (eqb-true q x f) ∙ e in rw (e, f) (next ∙ there)
    by true false e f next = rw (e, f) next
    by false c e f next = rw (e, f) (ap (λ (b : Bool). c || b) next)

distinct_unique : (xs : List ℕ) → IsDistinct nat_eq (unique_keys nat_eq xs)
unfolding IsDistinct
distinct_unique [] = tt
distinct_unique (x ∷ xs) = by (list_any (nat_eq x) xs) refl (distinct_unique xs)
  where
    by : (b : Bool) → list_any (nat_eq x) xs ≡ b → IsDistinct nat_eq (unique_keys nat_eq xs) → IsDistinct nat_eq (unique_keys nat_eq (x ∷ xs))
    by true e next = rw e next
    by false e next = rw e (apart x (unique_keys nat_eq xs) (member_unique x xs ∙ e), next)

all_filter : (p : ℕ → Bool) (x : ℕ) (ys : List ℕ) → AllByRecursion (λ y. nat_eq x y ≡ false) ys → AllByRecursion (λ y. nat_eq x y ≡ false) (filter p ys)
all_filter p x [] h = tt
all_filter p x (y ∷ ys) h = by (p y) (all_filter p x ys h.1)
  where
    by : (b : Bool) → AllByRecursion (λ z. nat_eq x z ≡ false) (filter p ys) → AllByRecursion (λ z. nat_eq x z ≡ false) (cond b (y ∷ filter p ys) (filter p ys))
    by true next = (h.0, next)
    by false next = next

pub distinct_filter : (p : ℕ → Bool) (xs : List ℕ) → IsDistinct nat_eq xs → IsDistinct nat_eq (filter p xs)
unfolding IsDistinct
distinct_filter p [] h = tt
distinct_filter p (x ∷ xs) h = by (p x) (distinct_filter p xs h.1)
  where
    by : (b : Bool) → IsDistinct nat_eq (filter p xs) → IsDistinct nat_eq (cond b (x ∷ filter p xs) (filter p xs))
    by true next = (all_filter p x xs h.0, next)
    by false next = next

-- ---- one more item

unwrap : (o p : Option Bool) → unwrap_or (elim o [ Some a ↦ Some a | None ↦ p ]) false ≡ unwrap_or o (unwrap_or p false)
unwrap (Some a) p = refl
unwrap None p = refl

pub down_one : (before : List Request) (item : Request) (d t : ℕ) → touch_is_down (item ∷ before) d t ≡ unwrap_or (says_touch d t before item) (touch_is_down before d t)
unfolding touch_is_down last_said
down_one before item d t = unwrap (says_touch d t before item) (last_said (says_touch d t) before)

put_one : (before : List Request) (item : Request) (d : ℕ) → joined (puts_touch d) (item ∷ before) ≡ joined (puts_touch d) before ++ puts_touch d before item
unfolding joined
put_one before item d = refl

-- ---- a touch that is down was put down

put_so : (t : ℕ) (i : InputEvent) → said_by t i ≡ Some true → list_any (nat_eq t) (put_by i) ≡ true
put_so t (input_event.TouchDown a x y) h = by (eqb a t) refl h
  where
    by : (b : Bool) → eqb a t ≡ b → cond b (Some true) None ≡ Some true → list_any (nat_eq t) (a ∷ []) ≡ true
    by true e h = let same : nat_eq t a ≡ true = eq-eqb t a (sym (eqb-true a t e)) in rw same refl
    by false e h = absurd (none_some true h)
put_so t (input_event.TouchUp a) h = absurd (by (eqb a t) h)
  where
    by : (b : Bool) → cond b (Some false) None ≡ Some true → ⊥
    by true h = cc
    by false h = none_some true h
put_so t (input_event.TouchCancel a) h = absurd (by (eqb a t) h)
  where
    by : (b : Bool) → cond b (Some false) None ≡ Some true → ⊥
    by true h = cc
    by false h = none_some true h
put_so t i h = absurd (none_some true h)

put_at : (d t : ℕ) (before : List Request) (item : Request) → says_touch d t before item ≡ Some true → list_any (nat_eq t) (puts_touch d before item) ≡ true
unfolding says_touch puts_touch
put_at d t before (Timed e x time) h = by (eqb e d) h
  where
    by : (b : Bool) → cond b (said_by t x) None ≡ Some true → list_any (nat_eq t) (cond b (put_by x) []) ≡ true
    by true h = put_so t x h
    by false h = absurd (none_some true h)
put_at d t before (Framed e s time) h = absurd (none_some true h)
put_at d t before (Given y) h = absurd (none_some true h)

or_right : (a b : Bool) → b ≡ true → (a || b) ≡ true
or_right true b h = refl
or_right false b h = h

put_more : (before : List Request) (item : Request) (d t : ℕ) (o : Option Bool) → says_touch d t before item ≡ o → (touch_is_down before d t ≡ true → list_any (nat_eq t) (joined (puts_touch d) before) ≡ true) → unwrap_or o (touch_is_down before d t) ≡ true →
    list_any (nat_eq t) (joined (puts_touch d) before ++ puts_touch d before item) ≡ true
put_more before item d t (Some true) e next h =
    list_any-append (nat_eq t) (joined (puts_touch d) before) (puts_touch d before item)
    ∙ or_right (list_any (nat_eq t) (joined (puts_touch d) before)) (list_any (nat_eq t) (puts_touch d before item)) (put_at d t before item e)
put_more before item d t (Some false) e next h = absurd cc
put_more before item d t None e next h = list_any-append (nat_eq t) (joined (puts_touch d) before) (puts_touch d before item) ∙ rw (next h) refl

was_put : (before : List Request) (d t : ℕ) → touch_is_down before d t ≡ true → list_any (nat_eq t) (joined (puts_touch d) before) ≡ true
unfolding touch_is_down last_said
was_put [] d t h = absurd cc
was_put (item ∷ before) d t h =
    ap (list_any (nat_eq t)) (put_one before item d) ∙ put_more before item d t (says_touch d t before item) refl (was_put before d t) (sym (down_one before item d t) ∙ h)

-- ---- the touches that are down

and_so : (a b : Bool) → (b ≡ true → a ≡ true) → (a && b) ≡ b
and_so true b h = refl
and_so false true h = h refl
and_so false false h = refl

pub down_members : (before : List Request) (d t : ℕ) → list_any (nat_eq t) (touches_before before d) ≡ touch_is_down before d t
unfolding touches_before
down_members before d t =
    is_member-filter nat_eq_equiv (touch_is_down before d) t (λ x e. ap (touch_is_down before d) (eqb-true t x e)) (unique_keys nat_eq (joined (puts_touch d) before))
    ∙ ap (λ (b : Bool). b && touch_is_down before d t) (member_unique t (joined (puts_touch d) before))
    ∙ and_so (list_any (nat_eq t) (joined (puts_touch d) before)) (touch_is_down before d t) (was_put before d t)

pub down_distinct : (before : List Request) (d : ℕ) → IsDistinct nat_eq (touches_before before d)
unfolding touches_before
down_distinct before d = distinct_filter (touch_is_down before d) (unique_keys nat_eq (joined (puts_touch d) before)) (distinct_unique (joined (puts_touch d) before))

-- any list of them without repetition is as long
pub down_count : (before : List Request) (d : ℕ) (ts : List ℕ) → IsDistinct nat_eq ts → ((t : ℕ) → list_any (nat_eq t) ts ≡ touch_is_down before d t) → length ts ≡ length (touches_before before d)
down_count before d ts h same = length-from_same_keys nat_eq_equiv ts (touches_before before d) h (down_distinct before d) (λ t. same t ∙ sym (down_members before d t))
