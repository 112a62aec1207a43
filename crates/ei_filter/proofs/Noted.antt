-- Which touches have begun among what passed, by the definitions.
use Rattle.std.proofs.Common.{◌≡◌, ℕ, Bool, true, false, cond, ◌&&◌, eqb, List, [], ◌∷◌, ◌++◌, Option, Some, None, refl, sym, ap, ◌∙◌, arith}
use Rattle.std.proofs.lemmas.Bool.{eqb-true}
use Rattle.std.proofs.lemmas.Bool.Decides.{nat_tests}
use Rattle.ei_keyed.specs.Keyed.{keyed, with_value}
use Rattle.ei_spec.specs.Groups.{Timed}
use Rattle.ei_input.specs.declared.input_event.InputEvent.{InputEvent}
use Rattle.ei_input.specs.declared.input_event.InputEvent.TheVariants as input_event
use Rattle.ei_filter.specs.Sifted.{Test, is_let, begins, passes_with}
use Rattle.ei_filter.specs.Kinds.{touch_of}
use Rattle.ei_filter.specs.Begun.{or_false, touch_in, touch_among, begun_in, passes_as, put_touch, with_touch, put_begin, after_input}

-- ---- values by keys

turned : (a b : ℕ) → eqb a b ≡ eqb b a
turned a b = grind (arith, nat_tests)

self : (n : ℕ) → eqb n n ≡ true
self n = grind (arith, nat_tests)

-- written where it is
keyed_written : {V : Type 0} (key k : ℕ) (v w : V) (xs : List (ℕ × V)) → keyed key xs ≡ Some w → keyed k (with_value key xs v) ≡ cond (eqb key k) (Some v) (keyed k xs)
keyed_written key k v w [] h = absurd cc
keyed_written key k v w (x ∷ xs) h = by (eqb key x.0) refl h (keyed_written key k v w xs)
  where
    far : (a : Bool) → eqb key x.0 ≡ true → eqb key k ≡ a → cond (eqb k key) (Some v) (keyed k xs) ≡ cond a (Some v) (cond (eqb k x.0) (Some x.1) (keyed k xs))
    far true e q = rw (turned k key, q) refl
    far false e q =
        let apart : eqb k x.0 ≡ false = ap (eqb k) (sym (eqb-true key x.0 e)) ∙ turned k key ∙ q in
        rw (turned k key, q, apart) refl

    near : (a : Bool) → eqb key x.0 ≡ false → eqb key k ≡ a → cond (eqb k x.0) (Some x.1) (cond a (Some v) (keyed k xs)) ≡ cond a (Some v) (cond (eqb k x.0) (Some x.1) (keyed k xs))
    near true e q =
        let apart : eqb k x.0 ≡ false = ap (λ (n : ℕ). eqb n x.0) (sym (eqb-true key k q)) ∙ e in
        rw apart refl
    near false e q = refl

    by : (b : Bool) → eqb key x.0 ≡ b → cond (eqb key x.0) (Some x.1) (keyed key xs) ≡ Some w → (keyed key xs ≡ Some w → keyed k (with_value key xs v) ≡ cond (eqb key k) (Some v) (keyed k xs)) →
        keyed k (with_value key (x ∷ xs) v) ≡ cond (eqb key k) (Some v) (keyed k (x ∷ xs))
    by true e g ih = rw e (far (eqb key k) e refl)
    by false e g ih = rw e (ap (cond (eqb k x.0) (Some x.1)) (ih (sym (rw e refl) ∙ g)) ∙ near (eqb key k) e refl)

-- put in behind, where there is none
keyed_put : {V : Type 0} (key k : ℕ) (v : V) (xs : List (ℕ × V)) → keyed key xs ≡ None → keyed k (xs ++ (key, v) ∷ []) ≡ cond (eqb key k) (Some v) (keyed k xs)
keyed_put key k v [] h = ap (λ (b : Bool). cond b (Some v) None) (turned k key)
keyed_put key k v (x ∷ xs) h = by (eqb key x.0) refl h (keyed_put key k v xs)
  where
    near : (a : Bool) → eqb key x.0 ≡ false → eqb key k ≡ a → cond (eqb k x.0) (Some x.1) (cond a (Some v) (keyed k xs)) ≡ cond a (Some v) (cond (eqb k x.0) (Some x.1) (keyed k xs))
    near true e q =
        let apart : eqb k x.0 ≡ false = ap (λ (n : ℕ). eqb n x.0) (sym (eqb-true key k q)) ∙ e in
        rw apart refl
    near false e q = refl

    by : (b : Bool) → eqb key x.0 ≡ b → cond (eqb key x.0) (Some x.1) (keyed key xs) ≡ None → (keyed key xs ≡ None → keyed k (xs ++ (key, v) ∷ []) ≡ cond (eqb key k) (Some v) (keyed k xs)) →
        keyed k ((x ∷ xs) ++ (key, v) ∷ []) ≡ cond (eqb key k) (Some v) (keyed k (x ∷ xs))
    by true e g ih = let none : Some x.1 ≡ None = sym (rw e refl) ∙ g in absurd cc
    by false e g ih = ap (cond (eqb k x.0) (Some x.1)) (ih (sym (rw e refl) ∙ g)) ∙ near (eqb key k) e refl

-- ---- touches

touch_put : (touch t : ℕ) (p : Bool) (ts : List (ℕ × Bool)) (o : Option Bool) → keyed touch ts ≡ o → touch_in t (put_touch touch p o ts) ≡ cond (eqb touch t) p (touch_in t ts)
touch_put touch t p ts None h = rw (keyed_put touch t p ts h) (of (eqb touch t))
  where
    of : (b : Bool) → or_false (cond b (Some p) (keyed t ts)) ≡ cond b p (touch_in t ts)
    of true = refl
    of false = refl
touch_put touch t p ts (Some w) h = rw (keyed_written touch t p w ts h) (of (eqb touch t))
  where
    of : (b : Bool) → or_false (cond b (Some p) (keyed t ts)) ≡ cond b p (touch_in t ts)
    of true = refl
    of false = refl

touch_with : (touch t : ℕ) (p : Bool) (ts : List (ℕ × Bool)) → touch_in t (with_touch touch p ts) ≡ cond (eqb touch t) p (touch_in t ts)
touch_with touch t p ts = touch_put touch t p ts (keyed touch ts) refl

begin_put : (device touch d t : ℕ) (p : Bool) (devices : List (ℕ × List (ℕ × Bool))) (o : Option (List (ℕ × Bool))) → keyed device devices ≡ o →
    begun_in d t (put_begin device touch p o devices) ≡ cond (eqb device d && eqb touch t) p (begun_in d t devices)
begin_put device touch d t p devices None h = rw (keyed_put device d (with_touch touch p []) devices h) (of (eqb device d) refl)
  where
    of : (b : Bool) → eqb device d ≡ b → touch_among t (cond b (Some (with_touch touch p [])) (keyed d devices)) ≡ cond (b && eqb touch t) p (begun_in d t devices)
    of true e =
        let none : keyed d devices ≡ None = ap (λ (n : ℕ). keyed n devices) (sym (eqb-true device d e)) ∙ h in
        touch_with touch t p [] ∙ rw none refl
    of false e = refl
begin_put device touch d t p devices (Some ts) h = rw (keyed_written device d (with_touch touch p ts) ts devices h) (of (eqb device d) refl)
  where
    of : (b : Bool) → eqb device d ≡ b → touch_among t (cond b (Some (with_touch touch p ts)) (keyed d devices)) ≡ cond (b && eqb touch t) p (begun_in d t devices)
    of true e =
        let some : keyed d devices ≡ Some ts = ap (λ (n : ℕ). keyed n devices) (sym (eqb-true device d e)) ∙ h in
        touch_with touch t p ts ∙ rw some refl
    of false e = refl

-- what is noted of an input of that device
pub begun_after : (device time : ℕ) (x : InputEvent) (p : Bool) (devices : List (ℕ × List (ℕ × Bool))) (d t : ℕ) →
    begun_in d t (after_input device (touch_of x) p devices) ≡ cond (begins d t (Timed device x time)) p (begun_in d t devices)
begun_after device time (input_event.TouchDown touch x y) p devices d t = begin_put device touch d t p devices (keyed device devices) refl
begun_after device time x p devices d t = refl

-- whether it passes
pub passes_with_as : (tests : List Test) (device time : ℕ) (x : InputEvent) (begun known : ℕ → Bool) → ((t : ℕ) → known t ≡ begun t) →
    passes_with tests begun (Timed device x time) ≡ passes_as (touch_of x) (is_let tests (Timed device x time)) known
passes_with_as tests device time (input_event.TouchUp touch) begun known h = sym (h touch)
passes_with_as tests device time (input_event.TouchCancel touch) begun known h = sym (h touch)
passes_with_as tests device time (input_event.TouchMotion touch x y) begun known h = ap (λ (b : Bool). b && is_let tests (Timed device (input_event.TouchMotion touch x y) time)) (sym (h touch))
passes_with_as tests device time x begun known h = refl
