-- Devices under numbers that rise: the first that passes a test, and what a change leaves.
use Rattle.std.proofs.Common.{◌≡◌, ◌≢◌, ◌≤◌, ◌<◌, ◌+◌, ℕ, Bool, true, false, cond, eqb, ◌||◌, List, [], ◌∷◌, ◌++◌, map, length, Option, Some, None, refl, sym, ap, ◌∙◌, arith}
use Rattle.std.specs.Prelude.{find, not}
use Rattle.std.specs.List.{filter, list_any}
use Rattle.std.proofs.lemmas.Bool.{eqb-true}
use Rattle.std.proofs.lemmas.Bool.Decides.{nat_tests}
use Rattle.ei_keyed.specs.Keyed.{keyed, with_value, without_key, RiseWithin}
use Rattle.ei_request.specs.Held.{DeviceView, is_device, is_of_key, is_of_seat, has_interface, changed_first, without_first}
use Rattle.ei_request.specs.DeviceTable.{values, number_of, with_first, fits_in, Numbered}

-- ---- numbers

pub le_end : {V : Type 0} (hs : List (ℕ × V)) (from end : ℕ) → RiseWithin from end hs → from ≤ end
le_end [] from end h = h
le_end (x ∷ hs) from end h = let le = le_end hs (x.0 + 1) end h.1 in omega (arith, h.0, le)

pub lower : {V : Type 0} (hs : List (ℕ × V)) (from low end : ℕ) → low ≤ from → RiseWithin from end hs → RiseWithin low end hs
lower [] from low end le h = omega (arith, le, h)
lower (x ∷ hs) from low end le h = (omega (arith, le, h.0), h.1)

pub keyed_above : {V : Type 0} (hs : List (ℕ × V)) (from end n : ℕ) (v : V) → RiseWithin from end hs → keyed n hs ≡ Some v → from ≤ n
keyed_above [] from end n v h e = absurd cc
keyed_above (x ∷ hs) from end n v h e = by (eqb n x.0) refl e (keyed_above hs (x.0 + 1) end n v h.1)
  where
    by : (b : Bool) → eqb n x.0 ≡ b → cond b (Some x.1) (keyed n hs) ≡ Some v → (keyed n hs ≡ Some v → x.0 + 1 ≤ n) → from ≤ n
    by true is e rest = (let p : n ≡ x.0 = eqb-true n x.0 is in omega (arith, p, h.0))
    by false is e rest = (let le = rest e in omega (arith, le, h.0))

number_above : (test : DeviceView → Bool) (hs : List (ℕ × DeviceView)) (from end n : ℕ) → RiseWithin from end hs → number_of test hs ≡ Some n → from ≤ n
number_above test [] from end n h e = absurd cc
number_above test (x ∷ hs) from end n h e = by (test x.1) e (number_above test hs (x.0 + 1) end n h.1)
  where
    by : (b : Bool) → cond b (Some x.0) (number_of test hs) ≡ Some n → (number_of test hs ≡ Some n → x.0 + 1 ≤ n) → from ≤ n
    by true e rest = (let p : x.0 ≡ n = cc in omega (arith, p, h.0))
    by false e rest = (let le = rest e in omega (arith, le, h.0))

differ : (n k : ℕ) → k + 1 ≤ n → eqb n k ≡ false
differ n k le = grind (arith, nat_tests)

same : (n : ℕ) → eqb n n ≡ true
same n = grind (arith, nat_tests)

-- ---- the first that passes a test

pub first_found : (test : DeviceView → Bool) (hs : List (ℕ × DeviceView)) (from end n : ℕ) → RiseWithin from end hs → number_of test hs ≡ Some n → keyed n hs ≡ find test (values hs)
first_found test [] from end n h e = absurd cc
first_found test (x ∷ hs) from end n h e = by (test x.1) e (first_found test hs (x.0 + 1) end n h.1) (number_above test hs (x.0 + 1) end n h.1)
  where
    by : (b : Bool) → cond b (Some x.0) (number_of test hs) ≡ Some n → (number_of test hs ≡ Some n → keyed n hs ≡ find test (values hs)) → (number_of test hs ≡ Some n → x.0 + 1 ≤ n) →
        cond (eqb n x.0) (Some x.1) (keyed n hs) ≡ cond b (Some x.1) (find test (values hs))
    by true e rest up = (let p : x.0 ≡ n = cc in let q : eqb n x.0 ≡ true = ap (eqb n) p ∙ same n in rw q refl)
    by false e rest up = rw (differ n x.0 (up e)) (rest e)

pub none_found : (test : DeviceView → Bool) (hs : List (ℕ × DeviceView)) → number_of test hs ≡ None → find test (values hs) ≡ None
none_found test [] e = refl
none_found test (x ∷ hs) e = by (test x.1) e (none_found test hs)
  where
    by : (b : Bool) → cond b (Some x.0) (number_of test hs) ≡ None → (number_of test hs ≡ None → find test (values hs) ≡ None) → cond b (Some x.1) (find test (values hs)) ≡ None
    by true e rest = absurd cc
    by false e rest = rest e

pub written_first : (test : DeviceView → Bool) (hs : List (ℕ × DeviceView)) (from end n : ℕ) (w : DeviceView) → RiseWithin from end hs → number_of test hs ≡ Some n → with_value n hs w ≡ with_first test hs w
written_first test [] from end n w h e = refl
written_first test (x ∷ hs) from end n w h e = by (test x.1) e (written_first test hs (x.0 + 1) end n w h.1) (number_above test hs (x.0 + 1) end n h.1)
  where
    by : (b : Bool) → cond b (Some x.0) (number_of test hs) ≡ Some n → (number_of test hs ≡ Some n → with_value n hs w ≡ with_first test hs w) → (number_of test hs ≡ Some n → x.0 + 1 ≤ n) →
        cond (eqb n x.0) ((n, w) ∷ hs) (x ∷ with_value n hs w) ≡ cond b ((x.0, w) ∷ hs) (x ∷ with_first test hs w)
    by true e rest up = (let p : x.0 ≡ n = cc in let q : eqb n x.0 ≡ true = ap (eqb n) p ∙ same n in rw q (ap (λ (k : ℕ). (k, w) ∷ hs) (sym p)))
    by false e rest up = rw (differ n x.0 (up e)) (ap (λ ys. x ∷ ys) (rest e))

pub taken_first : (test : DeviceView → Bool) (hs : List (ℕ × DeviceView)) (from end n : ℕ) → RiseWithin from end hs → number_of test hs ≡ Some n → values (without_key n hs) ≡ without_first test (values hs)
taken_first test [] from end n h e = refl
taken_first test (x ∷ hs) from end n h e = by (test x.1) e (taken_first test hs (x.0 + 1) end n h.1) (number_above test hs (x.0 + 1) end n h.1)
  where
    by : (b : Bool) → cond b (Some x.0) (number_of test hs) ≡ Some n → (number_of test hs ≡ Some n → values (without_key n hs) ≡ without_first test (values hs)) → (number_of test hs ≡ Some n → x.0 + 1 ≤ n) →
        values (cond (eqb n x.0) hs (x ∷ without_key n hs)) ≡ cond b (values hs) (x.1 ∷ without_first test (values hs))
    by true e rest up = (let p : x.0 ≡ n = cc in let q : eqb n x.0 ≡ true = ap (eqb n) p ∙ same n in rw q refl)
    by false e rest up = rw (differ n x.0 (up e)) (ap (λ ys. x.1 ∷ ys) (rest e))

-- the devices after a write to the first
pub values_written : (test : DeviceView → Bool) (change : DeviceView → DeviceView) (hs : List (ℕ × DeviceView)) (d w : DeviceView) → find test (values hs) ≡ Some d → w ≡ change d → values (with_first test hs w) ≡ changed_first test change (values hs)
values_written test change [] d w f e = refl
values_written test change (x ∷ hs) d w f e = by (test x.1) f (values_written test change hs d w)
  where
    by : (b : Bool) → cond b (Some x.1) (find test (values hs)) ≡ Some d → (find test (values hs) ≡ Some d → w ≡ change d → values (with_first test hs w) ≡ changed_first test change (values hs)) →
        values (cond b ((x.0, w) ∷ hs) (x ∷ with_first test hs w)) ≡ cond b (change x.1 ∷ values hs) (x.1 ∷ changed_first test change (values hs))
    by true f rest = (let p : x.1 ≡ d = cc in ap (λ (y : DeviceView). y ∷ values hs) (e ∙ ap change (sym p)))
    by false f rest = ap (λ ys. x.1 ∷ ys) (rest f e)

pub same_written : (test : DeviceView → Bool) (hs : List (ℕ × DeviceView)) (d w : DeviceView) → find test (values hs) ≡ Some d → w ≡ d → values (with_first test hs w) ≡ values hs
same_written test [] d w f e = refl
same_written test (x ∷ hs) d w f e = by (test x.1) f (same_written test hs d w)
  where
    by : (b : Bool) → cond b (Some x.1) (find test (values hs)) ≡ Some d → (find test (values hs) ≡ Some d → w ≡ d → values (with_first test hs w) ≡ values hs) →
        values (cond b ((x.0, w) ∷ hs) (x ∷ with_first test hs w)) ≡ x.1 ∷ values hs
    by true f rest = (let p : x.1 ≡ d = cc in ap (λ (y : DeviceView). y ∷ values hs) (e ∙ sym p))
    by false f rest = ap (λ ys. x.1 ∷ ys) (rest f e)

-- ---- what keeps the numbers rising

pub rises_written : (test : DeviceView → Bool) (hs : List (ℕ × DeviceView)) (from end : ℕ) (w : DeviceView) → RiseWithin from end hs → RiseWithin from end (with_first test hs w)
rises_written test [] from end w h = h
rises_written test (x ∷ hs) from end w h = by (test x.1) (rises_written test hs (x.0 + 1) end w h.1)
  where
    by : (b : Bool) → RiseWithin (x.0 + 1) end (with_first test hs w) → RiseWithin from end (cond b ((x.0, w) ∷ hs) (x ∷ with_first test hs w))
    by true rest = h
    by false rest = (h.0, rest)

pub rises_value : (n : ℕ) (hs : List (ℕ × DeviceView)) (from end : ℕ) (w : DeviceView) → RiseWithin from end hs → RiseWithin from end (with_value n hs w)
rises_value n [] from end w h = h
rises_value n (x ∷ hs) from end w h = by (eqb n x.0) refl (rises_value n hs (x.0 + 1) end w h.1)
  where
    by : (b : Bool) → eqb n x.0 ≡ b → RiseWithin (x.0 + 1) end (with_value n hs w) → RiseWithin from end (cond b ((n, w) ∷ hs) (x ∷ with_value n hs w))
    by true e rest = (let p : n ≡ x.0 = eqb-true n x.0 e in rw p h)
    by false e rest = (h.0, rest)

pub rises_without : (n : ℕ) (hs : List (ℕ × DeviceView)) (from end : ℕ) → RiseWithin from end hs → RiseWithin from end (without_key n hs)
rises_without n [] from end h = h
rises_without n (x ∷ hs) from end h = by (eqb n x.0) (rises_without n hs (x.0 + 1) end h.1)
  where
    by : (b : Bool) → RiseWithin (x.0 + 1) end (without_key n hs) → RiseWithin from end (cond b hs (x ∷ without_key n hs))
    by true rest = lower hs (x.0 + 1) from end (let le = h.0 in omega (arith, le)) h.1
    by false rest = (h.0, rest)

pub rises_filter : (p : ℕ × DeviceView → Bool) (hs : List (ℕ × DeviceView)) (from end : ℕ) → RiseWithin from end hs → RiseWithin from end (filter p hs)
rises_filter p [] from end h = h
rises_filter p (x ∷ hs) from end h = by (p x) (rises_filter p hs (x.0 + 1) end h.1)
  where
    by : (b : Bool) → RiseWithin (x.0 + 1) end (filter p hs) → RiseWithin from end (cond b (x ∷ filter p hs) (filter p hs))
    by true rest = (h.0, rest)
    by false rest = lower (filter p hs) (x.0 + 1) from end (let le = h.0 in omega (arith, le)) rest

pub rises_push : (hs : List (ℕ × DeviceView)) (from end : ℕ) (d : DeviceView) → RiseWithin from end hs → RiseWithin from (end + 1) (hs ++ (end, d) ∷ [])
rises_push [] from end d h = (h, omega arith)
rises_push (x ∷ hs) from end d h = (h.0, rises_push hs (x.0 + 1) end d h.1)

pub values_push : (hs : List (ℕ × DeviceView)) (n : ℕ) (d : DeviceView) → values (hs ++ (n, d) ∷ []) ≡ values hs ++ d ∷ []
values_push [] n d = refl
values_push (x ∷ hs) n d = ap (λ ys. x.1 ∷ ys) (values_push hs n d)

pub values_filter : (p : DeviceView → Bool) (hs : List (ℕ × DeviceView)) → values (filter (λ x. p x.1) hs) ≡ filter p (values hs)
values_filter p [] = refl
values_filter p (x ∷ hs) = by (p x.1) (values_filter p hs)
  where
    by : (b : Bool) → values (filter (λ x. p x.1) hs) ≡ filter p (values hs) → values (cond b (x ∷ filter (λ x. p x.1) hs) (filter (λ x. p x.1) hs)) ≡ cond b (x.1 ∷ filter p (values hs)) (filter p (values hs))
    by true rest = ap (λ ys. x.1 ∷ ys) rest
    by false rest = rest
