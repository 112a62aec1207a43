-- How many touches are down.
use Rattle.std.proofs.Common.{◌≡◌, ℕ, ◌+◌, ◌<◌, ◌≤◌, Bool, true, false, cond, not, ◌||◌, eqb, List, [], ◌∷◌, ◌++◌, length, Option, Some, None, refl, sym, ap}
use Rattle.std.proofs.Common.{◌∙◌, arith}
use Rattle.std.specs.Prelude.{unwrap_or, nat_eq, nat_le}
use Rattle.std.specs.List.{filter, list_any}
use Rattle.std.specs.Set.{unique_keys}
use Rattle.std.proofs.lemmas.Bool.{eqb-true, eq-eqb, leb-false}
use Rattle.std.proofs.lemmas.List.{append-nil}
use Rattle.ei_spec.specs.Message.{Raw}
use Rattle.ei_spec.specs.History.{joined}
use Rattle.ei_session.specs.Setup.{Setup}
use Rattle.ei_session.specs.Objects.{Entry, object}
use Rattle.ei_input.specs.declared.input_event.InputEvent.TheVariants as input_event
use Rattle.ei_wire.specs.declared.arg.RawFloat.{RawFloat}
use Rattle.ei_input.specs.declared.input_event.InputEvent.{InputEvent}
use Rattle.ei_session.specs.Inputs.{DeviceInput}
use Rattle.ei_session.specs.Touches.{input_of, input, said_by, touches, is_down, put_by, puts, touches_down}
use Rattle.ei_spec.specs.Rows.{Row, row_at}
use Rattle.ei_spec.specs.Table.{table}
use Rattle.ei_session.specs.Asked.{first}
use Rattle.ei_session.specs.Refusals.{Refusal, Arguments, arguments, bad_touch, tests, refused_by, refused_at, refusal}
use Rattle.ei_session.specs.Served.{AreUnrefused}
use Rattle.ei_session.proofs.Choices.{none_some, not_both}
use Rattle.ei_session.proofs.SerialLaws.{down_more}

-- ---- lists without repetition

shorter_filter : (p q : ℕ → Bool) → ((x : ℕ) → p x ≡ true → q x ≡ true) → (xs : List ℕ) → length (filter p xs) ≤ length (filter q xs)
shorter_filter p q h [] = omega arith
shorter_filter p q h (x ∷ xs) = by (p x) (q x) refl refl (shorter_filter p q h xs)
  where
    by : (a b : Bool) → p x ≡ a → q x ≡ b → length (filter p xs) ≤ length (filter q xs) → length (filter p (x ∷ xs)) ≤ length (filter q (x ∷ xs))
    by true true e f le = rw (e, f) (omega (arith, le))
    by true false e f le = absurd (not_both (q x) (h x e) f)
    by false true e f le = rw (e, f) (omega (arith, le))
    by false false e f le = rw (e, f) le

shorter_twice : (p q r : ℕ → Bool) → ((x : ℕ) → r x ≡ true → p x ≡ true → q x ≡ true) → (xs : List ℕ) → length (filter p (filter r xs)) ≤ length (filter q xs)
shorter_twice p q r h [] = omega arith
shorter_twice p q r h (x ∷ xs) = by (r x) (p x) (q x) refl refl refl (shorter_twice p q r h xs)
  where
    by : (c a b : Bool) → r x ≡ c → p x ≡ a → q x ≡ b → length (filter p (filter r xs)) ≤ length (filter q xs) → length (filter p (filter r (x ∷ xs))) ≤ length (filter q (x ∷ xs))
    by true true true g e f le = rw (g, e, f) (omega (arith, le))
    by true true false g e f le = absurd (not_both (q x) (h x g e) f)
    by true false true g e f le = rw (g, e, f) (omega (arith, le))
    by true false false g e f le = rw (g, e, f) le
    by false a true g e f le = rw (g, f) (omega (arith, le))
    by false a false g e f le = rw (g, f) le

one_longer : (p : ℕ → Bool) (xs : List ℕ) (t : ℕ) → length (filter p (xs ++ (t ∷ []))) ≤ length (filter p xs) + 1
one_longer p [] t = by (p t) refl
  where
    by : (a : Bool) → p t ≡ a → length (filter p (t ∷ [])) ≤ 1
    by true e = rw e (omega arith)
    by false e = rw e (omega arith)
one_longer p (x ∷ xs) t = by (p x) refl (one_longer p xs t)
  where
    by : (a : Bool) → p x ≡ a → length (filter p (xs ++ (t ∷ []))) ≤ length (filter p xs) + 1 → length (filter p (x ∷ (xs ++ (t ∷ [])))) ≤ length (filter p (x ∷ xs)) + 1
    by true e le = rw e (omega (arith, le))
    by false e le = rw e le

any_more : (test : ℕ → Bool) (xs : List ℕ) (t : ℕ) → list_any test (xs ++ (t ∷ [])) ≡ (list_any test xs || test t)
any_more test [] t = by (test t)
  where
    by : (a : Bool) → (a || false) ≡ a
    by true = refl
    by false = refl
any_more test (x ∷ xs) t = rw (any_more test xs t) (by (test x) (list_any test xs) (test t))
  where
    by : (a b c : Bool) → (a || (b || c)) ≡ ((a || b) || c)
    by true b c = refl
    by false b c = refl

-- one more, without repetition: the others, and it
unique_more : (xs : List ℕ) (t : ℕ) → unique_keys nat_eq (xs ++ (t ∷ [])) ≡ filter (λ x. not (nat_eq x t)) (unique_keys nat_eq xs) ++ (t ∷ [])
unique_more [] t = refl
unique_more (x ∷ xs) t = by (list_any (nat_eq x) xs) (nat_eq x t) refl refl (unique_more xs t)
  where
    by : (a b : Bool) → list_any (nat_eq x) xs ≡ a → nat_eq x t ≡ b → unique_keys nat_eq (xs ++ (t ∷ [])) ≡ filter (λ x. not (nat_eq x t)) (unique_keys nat_eq xs) ++ (t ∷ []) →
        unique_keys nat_eq (x ∷ (xs ++ (t ∷ []))) ≡ filter (λ x. not (nat_eq x t)) (unique_keys nat_eq (x ∷ xs)) ++ (t ∷ [])
    by true b e f ih = let m : list_any (nat_eq x) (xs ++ (t ∷ [])) ≡ true = any_more (nat_eq x) xs t ∙ rw e refl in rw (m, e) ih
    by false true e f ih = let m : list_any (nat_eq x) (xs ++ (t ∷ [])) ≡ true = any_more (nat_eq x) xs t ∙ rw (e, f) refl in rw (m, e, f) ih
    by false false e f ih = let m : list_any (nat_eq x) (xs ++ (t ∷ [])) ≡ false = any_more (nat_eq x) xs t ∙ rw (e, f) refl in rw (m, e, f) (ap (λ (ys : List ℕ). x ∷ ys) ih)

-- ---- one more message

down_kept : (s : Option Bool) (q : Bool) → (s ≡ Some true → ⊥) → unwrap_or s q ≡ true → q ≡ true
down_kept None q never h = h
down_kept (Some true) q never h = absurd (never refl)
down_kept (Some false) q never h = absurd cc

-- no more touches are down after a message that puts none down
pub count_kept : (before : List Raw) (m : Raw) (d : ℕ) → puts d before m ≡ [] → ((t : ℕ) → touches d t before m ≡ Some true → ⊥) → length (touches_down (m ∷ before) d) ≤ length (touches_down before d)
unfolding touches_down joined
count_kept before m d none never =
    let same : joined (puts d) (m ∷ before) ≡ joined (puts d) before = ap (λ (x : List ℕ). joined (puts d) before ++ x) none ∙ append-nil (joined (puts d) before) in
    rw same (shorter_filter (is_down (m ∷ before) d) (is_down before d) (λ t h. down_kept (touches d t before m) (is_down before d t) (never t) (sym (down_more before m d t) ∙ h)) (unique_keys nat_eq (joined (puts d) before)))

-- and at most one more after a message that puts one down
pub count_more : (before : List Raw) (m : Raw) (d t : ℕ) → puts d before m ≡ t ∷ [] → ((x : ℕ) → touches d x before m ≡ Some true → nat_eq x t ≡ true) → length (touches_down (m ∷ before) d) ≤ length (touches_down before d) + 1
unfolding touches_down joined
count_more before m d t one only =
    let xs = joined (puts d) before in
    let more : joined (puts d) (m ∷ before) ≡ xs ++ (t ∷ []) = ap (λ (x : List ℕ). joined (puts d) before ++ x) one in
    let others = filter (λ x. not (nat_eq x t)) (unique_keys nat_eq xs) in
    let kept : (x : ℕ) → not (nat_eq x t) ≡ true → is_down (m ∷ before) d x ≡ true → is_down before d x ≡ true =
    λ x far h. down_kept (touches d x before m) (is_down before d x) (λ s. not_both (nat_eq x t) (only x s) (by (nat_eq x t) far)) (sym (down_more before m d x) ∙ h) in
    let a = shorter_twice (is_down (m ∷ before) d) (is_down before d) (λ x. not (nat_eq x t)) kept (unique_keys nat_eq xs) in
    let b = one_longer (is_down (m ∷ before) d) others t in
    rw (more, unique_more xs t) (omega (arith, a, b))
  where
    by : (b : Bool) → not b ≡ true → b ≡ false
    by true e = absurd cc
    by false e = refl

-- ---- what is said of touches

-- an input that puts a touch down, or says of none that it is down
data Puts (x : InputEvent) : Type 0 where
  Down : (t : ℕ) (a b : RawFloat) → x ≡ input_event.TouchDown t a b → Puts x
  Nothing : put_by x ≡ [] → ((t : ℕ) → said_by t x ≡ Some true → ⊥) → Puts x

ended : (b : Bool) → cond b (Some false) None ≡ Some true → ⊥
ended true e = absurd cc
ended false e = absurd cc

none_true : ◌≡◌ {A = Option Bool} None (Some true) → ⊥
none_true e = absurd cc

which : (x : InputEvent) → Puts x
which (input_event.TouchDown t a b) = Down t a b refl
which (input_event.TouchUp t) = Nothing refl (λ n. ended (eqb t n))
which (input_event.TouchCancel t) = Nothing refl (λ n. ended (eqb t n))
which i = Nothing refl (λ n. none_true)

quiet_puts : (before : List Raw) (m : Raw) (d : ℕ) (i : DeviceInput) (b : Bool) → input before m ≡ Some i → eqb i.device d ≡ b → put_by i.input ≡ [] → puts d before m ≡ []
unfolding puts
quiet_puts before m d i true h e n = rw (h, puts, e) n
quiet_puts before m d i false h e n = rw (h, puts, e) refl

quiet_says : (before : List Raw) (m : Raw) (d : ℕ) (i : DeviceInput) (b : Bool) → input before m ≡ Some i → eqb i.device d ≡ b → ((t : ℕ) → said_by t i.input ≡ Some true → ⊥) → (t : ℕ) → touches d t before m ≡ Some true → ⊥
unfolding touches
quiet_says before m d i true h e n t s = n t (sym (rw (h, touches, e) refl) ∙ s)
quiet_says before m d i false h e n t s = none_true (sym (rw (h, touches, e) refl) ∙ s)

other_puts : (before : List Raw) (m : Raw) (d : ℕ) (i : DeviceInput) → input before m ≡ Some i → eqb i.device d ≡ false → puts d before m ≡ []
unfolding puts
other_puts before m d i h e = rw (h, puts, e) refl

other_says : (before : List Raw) (m : Raw) (d : ℕ) (i : DeviceInput) → input before m ≡ Some i → eqb i.device d ≡ false → (t : ℕ) → touches d t before m ≡ Some true → ⊥
unfolding touches
other_says before m d i h e t s = none_true (sym (rw (h, touches, e) refl) ∙ s)

down_puts : (before : List Raw) (m : Raw) (d : ℕ) (i : DeviceInput) (t : ℕ) (a b : RawFloat) → input before m ≡ Some i → eqb i.device d ≡ true → i.input ≡ input_event.TouchDown t a b → puts d before m ≡ t ∷ []
unfolding puts
down_puts before m d i t a b h e x = rw (h, puts, e, x) refl

down_says : (before : List Raw) (m : Raw) (d : ℕ) (i : DeviceInput) (t : ℕ) (a b : RawFloat) → input before m ≡ Some i → eqb i.device d ≡ true → i.input ≡ input_event.TouchDown t a b → (n : ℕ) → touches d n before m ≡ Some true → nat_eq n t ≡ true
unfolding touches
down_says before m d i t a b h e x n s = by (eqb t n) refl (sym (rw (h, touches, e, x) refl) ∙ s)
  where
    by : (c : Bool) → eqb t n ≡ c → cond c (Some true) None ≡ Some true → nat_eq n t ≡ true
    by true q r = let same : t ≡ n = eqb-true t n q in eq-eqb n t (sym same)
    by false q r = absurd (none_true r)

-- ---- a message that isn't refused leaves at most sixteen down

-- none of the tests applies
abbrev pub AllNone : List (Option Refusal) → Type 0
AllNone [] = Unit {0}
AllNone (x ∷ xs) = (x ≡ None) × AllNone xs

pub all_none : (xs : List (Option Refusal)) → first xs ≡ None → AllNone xs
all_none [] h = tt
all_none (None ∷ xs) h = (refl, all_none xs h)
all_none (Some x ∷ xs) h = absurd (none_some x (sym h))

module _ (setup : Setup) (before : List Raw) (m : Raw) where
  touch_allowed_by : (e : Entry) (row : Option Row) (arguments : Arguments) → refused_by setup before m e row arguments ≡ None → bad_touch before e.version (input before m) ≡ None
  touch_allowed_by e row arguments h = (all_none (tests setup before m e row arguments) h).1.1.1.1.1.1.1.0

  touch_allowed_at : (o : Option Entry) (i : DeviceInput) → object before m.id ≡ o → refused_at setup before m o ≡ None → input_of m o ≡ Some i → (v : ℕ) × (bad_touch before v (input before m) ≡ None)
  touch_allowed_at None i k h n = absurd (none_some i n)
  touch_allowed_at (Some e) i k h n = let row = row_at m.opcode (table false e.interface) in (e.version, touch_allowed_by e row (arguments row m) h)

  touch_allowed : (i : DeviceInput) → refusal setup before m ≡ None → input before m ≡ Some i → (v : ℕ) × (bad_touch before v (Some i) ≡ None)
  unfolding refusal input
  touch_allowed i h n = let w = touch_allowed_at (object before m.id) i refl h n in (w.0, ap (bad_touch before w.0) (sym n) ∙ w.1)

few : (n : ℕ) (rest : Option Refusal) (e : Refusal) → cond (nat_le 16 n) (Some e) rest ≡ None → n < 16
few n rest e h = by (nat_le 16 n) refl h
  where
    by : (b : Bool) → nat_le 16 n ≡ b → cond b (Some e) rest ≡ None → n < 16
    by true q h = absurd (none_some e (sym h))
    by false q h = leb-false 16 n q

few_down : (before : List Raw) (v : ℕ) (i : DeviceInput) (t : ℕ) (a b : RawFloat) → i.input ≡ input_event.TouchDown t a b → bad_touch before v (Some i) ≡ None → length (touches_down before i.device) < 16
few_down before v i t a b x h = few (length (touches_down before i.device)) _ _ (rw x at h)

step_by : (setup : Setup) (before : List Raw) (m : Raw) (d : ℕ) (i : DeviceInput) (b : Bool) → refusal setup before m ≡ None → input before m ≡ Some i → eqb i.device d ≡ b → Puts i.input → length (touches_down before d) ≤ 16 → length (touches_down (m ∷ before) d) ≤ 16
step_by setup before m d i false r h e w le = omega (arith, count_kept before m d (other_puts before m d i h e) (other_says before m d i h e), le)
step_by setup before m d i true r h e (Nothing n s) le = omega (arith, count_kept before m d (quiet_puts before m d i true h e n) (quiet_says before m d i true h e s), le)
step_by setup before m d i true r h e (Down t a b x) le =
    let allowed = touch_allowed setup before m i r h in
    let lt = few_down before allowed.0 i t a b x allowed.1 in
    let same : length (touches_down before i.device) ≡ length (touches_down before d) = ap (λ (n : ℕ). length (touches_down before n)) (eqb-true i.device d e) in
    omega (arith, count_more before m d t (down_puts before m d i t a b h e x) (down_says before m d i t a b h e x), lt, same)

no_input_puts : (before : List Raw) (m : Raw) (d : ℕ) → input before m ≡ None → puts d before m ≡ []
unfolding puts
no_input_puts before m d h = rw (h, puts) refl

no_input_says : (before : List Raw) (m : Raw) (d : ℕ) → input before m ≡ None → (t : ℕ) → touches d t before m ≡ Some true → ⊥
unfolding touches
no_input_says before m d h t s = none_true (sym (rw (h, touches) refl) ∙ s)

step : (setup : Setup) (before : List Raw) (m : Raw) (d : ℕ) (o : Option DeviceInput) → refusal setup before m ≡ None → input before m ≡ o → length (touches_down before d) ≤ 16 → length (touches_down (m ∷ before) d) ≤ 16
step setup before m d None r h le = omega (arith, count_kept before m d (no_input_puts before m d h) (no_input_says before m d h), le)
step setup before m d (Some i) r h le = step_by setup before m d i (eqb i.device d) r h refl (which i.input) le

none_down : (d : ℕ) → length (touches_down [] d) ≤ 16
unfolding touches_down joined
none_down d = omega arith

pub touches_within : (setup : Setup) (past : List Raw) (d : ℕ) → AreUnrefused setup past → length (touches_down past d) ≤ 16
unfolding AreUnrefused
touches_within setup [] d h = none_down d
touches_within setup (m ∷ before) d h = step setup before m d (input before m) h.0 refl (touches_within setup before d h.1)
