-- Devices by rising ids: looked up, changed, and taken out.
use Rattle.std.proofs.Common.{◌≡◌, ℕ, ◌+◌, ◌<◌, ◌≤◌, Bool, true, false, not, cond, List, [], ◌∷◌, Some, None, refl, sym, ap, ◌∙◌, subst, arith}
use Rattle.std.specs.Prelude.{map, find, filter, nat_eq}
use Rattle.std.specs.Option.{option_map}
use Rattle.std.specs.List.{AllByRecursion}
use Rattle.std.proofs.lemmas.Bool.{eqb-true}
use Rattle.std.proofs.lemmas.Bool.Decides.{nat_tests}
use Rattle.ei_request.specs.Held.{DeviceView, is_device, changed_first, without_first}
use Rattle.ei_standing.specs.Standing.{RiseFrom}

pub same_test : (a : ℕ) → nat_eq a a ≡ true
same_test a = grind (arith, nat_tests)

-- ---- what is found

passes_at : (p : DeviceView → Bool) (x v : DeviceView) (ds : List DeviceView) (b : Bool) → p x ≡ b → cond b (Some x) (find p ds) ≡ Some v → (find p ds ≡ Some v → p v ≡ true) → p v ≡ true
passes_at p x v ds true t e rest = let same : x ≡ v = cc in ap p (sym same) ∙ t
passes_at p x v ds false t e rest = rest e

-- it passes the test
pub found_passes : (p : DeviceView → Bool) (ds : List DeviceView) (v : DeviceView) → find p ds ≡ Some v → p v ≡ true
found_passes p [] v e = absurd cc
found_passes p (x ∷ ds) v e = passes_at p x v ds (p x) refl e (found_passes p ds v)

found_above_at : (p : DeviceView → Bool) (x : DeviceView) (ds : List DeviceView) (from : ℕ) (v : DeviceView) (b : Bool) → from ≤ x.device.proxy.id → cond b (Some x) (find p ds) ≡ Some v → (find p ds ≡ Some v → x.device.proxy.id + 1 ≤ v.device.proxy.id) → from ≤ v.device.proxy.id
found_above_at p x ds from v true le e rest = let same : x ≡ v = cc in subst (λ (w : DeviceView). from ≤ w.device.proxy.id) same le
found_above_at p x ds from v false le e rest = omega (arith, rest e)

pub found_above : (p : DeviceView → Bool) (ds : List DeviceView) (from : ℕ) (v : DeviceView) → RiseFrom from ds → find p ds ≡ Some v → from ≤ v.device.proxy.id
found_above p [] from v rise e = absurd cc
found_above p (x ∷ ds) from v rise e = found_above_at p x ds from v (p x) rise.0 e (found_above p ds (x.device.proxy.id + 1) v rise.1)

-- what holds of each device that is found by its id holds of all
pub all_found : (P : DeviceView → Type 0) (ds : List DeviceView) (from : ℕ) → RiseFrom from ds → ((id : ℕ) (v : DeviceView) → find (is_device id) ds ≡ Some v → P v) → AllByRecursion P ds
all_found P [] from rise h = tt
all_found P (x ∷ ds) from rise h = (
  h x.device.proxy.id x (rw (same_test x.device.proxy.id) refl),
  all_found P ds (x.device.proxy.id + 1) rise.1 (λ id v e.
      let low : x.device.proxy.id + 1 ≤ v.device.proxy.id = found_above (is_device id) ds (x.device.proxy.id + 1) v rise.1 e in
      let here : v.device.proxy.id ≡ id = eqb-true v.device.proxy.id id (found_passes (is_device id) ds v e) in
      let other : nat_eq x.device.proxy.id id ≡ false = grind (arith, nat_tests) in
      h id v (rw other e)),
)

-- tests that agree on all find the same
pub find_same : (p q : DeviceView → Bool) (ds : List DeviceView) → AllByRecursion (λ v. p v ≡ q v) ds → find p ds ≡ find q ds
find_same p q [] h = refl
find_same p q (x ∷ ds) h = rw (h.0, find_same p q ds h.1) refl

pub find_nothing : (p : DeviceView → Bool) (ds : List DeviceView) → AllByRecursion (λ v. p v ≡ false) ds → find p ds ≡ None
find_nothing p [] h = refl
find_nothing p (x ∷ ds) h = rw h.0 (find_nothing p ds h.1)

pub all_of : (P Q : DeviceView → Type 0) → ((v : DeviceView) → P v → Q v) → (ds : List DeviceView) → AllByRecursion P ds → AllByRecursion Q ds
all_of P Q f [] h = tt
all_of P Q f (x ∷ ds) h = (f x h.0, all_of P Q f ds h.1)

-- ---- all are changed

find_test_map : (p : DeviceView → Bool) (f : DeviceView → DeviceView) (x : DeviceView) (ds : List DeviceView) (b : Bool) → p x ≡ b → p (f x) ≡ p x → find p (map f ds) ≡ option_map f (find p ds) →
    cond (p (f x)) (Some (f x)) (find p (map f ds)) ≡ option_map f (cond (p x) (Some x) (find p ds))
find_test_map p f x ds true e k h = rw (k, e) refl
find_test_map p f x ds false e k h = rw (k, e) h

pub find_mapped : (p : DeviceView → Bool) (f : DeviceView → DeviceView) → ((x : DeviceView) → p (f x) ≡ p x) → (ds : List DeviceView) → find p (map f ds) ≡ option_map f (find p ds)
find_mapped p f k [] = refl
find_mapped p f k (x ∷ ds) = find_test_map p f x ds (p x) refl (k x) (find_mapped p f k ds)

pub rises_mapped : (f : DeviceView → DeviceView) → ((x : DeviceView) → (f x).device.proxy.id ≡ x.device.proxy.id) → (ds : List DeviceView) (from : ℕ) → RiseFrom from ds → RiseFrom from (map f ds)
rises_mapped f keep [] from rise = tt
rises_mapped f keep (x ∷ ds) from rise =
    (omega (arith, keep x, rise.0), subst (λ (n : ℕ). RiseFrom (n + 1) (map f ds)) (sym (keep x)) (rises_mapped f keep ds (x.device.proxy.id + 1) rise.1))

-- ---- the first that passes is changed

-- the device of that id is changed
abbrev pub changed_if : ℕ → (DeviceView → DeviceView) → DeviceView → DeviceView
changed_if id change d = cond (is_device id d) (change d) d

-- behind a place no device has a lower id
none_above : (ds : List DeviceView) (from id : ℕ) (change : DeviceView → DeviceView) → RiseFrom from ds → id < from → map (changed_if id change) ds ≡ ds
none_above [] from id change rise lt = refl
none_above (x ∷ ds) from id change rise lt =
    let other : nat_eq x.device.proxy.id id ≡ false = grind (arith, nat_tests, rise.0) in
    rw other (ap (λ (ys : List DeviceView). x ∷ ys) (none_above ds (x.device.proxy.id + 1) id change rise.1 (omega (arith, rise.0))))

first_at : (p : DeviceView → Bool) (change : DeviceView → DeviceView) (x : DeviceView) (ds : List DeviceView) (v : DeviceView) → RiseFrom (x.device.proxy.id + 1) ds → (b : Bool) → cond b (Some x) (find p ds) ≡ Some v →
    (find p ds ≡ Some v → changed_first p change ds ≡ map (changed_if v.device.proxy.id change) ds) →
    cond b (change x ∷ ds) (x ∷ changed_first p change ds) ≡ map (changed_if v.device.proxy.id change) (x ∷ ds)
first_at p change x ds v rise true e rest =
    let same : x ≡ v = cc in
    subst (λ (w : DeviceView). change x ∷ ds ≡ map (changed_if w.device.proxy.id change) (x ∷ ds)) same
    (rw (same_test x.device.proxy.id) (ap (λ (ys : List DeviceView). change x ∷ ys) (sym (none_above ds (x.device.proxy.id + 1) x.device.proxy.id change rise (omega arith)))))
first_at p change x ds v rise false e rest =
    let above : x.device.proxy.id + 1 ≤ v.device.proxy.id = found_above p ds (x.device.proxy.id + 1) v rise e in
    let other : nat_eq x.device.proxy.id v.device.proxy.id ≡ false = grind (arith, nat_tests) in
    rw other (ap (λ (ys : List DeviceView). x ∷ ys) (rest e))

-- it is the device of its id
pub first_is : (p : DeviceView → Bool) (change : DeviceView → DeviceView) (ds : List DeviceView) (from : ℕ) (v : DeviceView) → RiseFrom from ds → find p ds ≡ Some v → changed_first p change ds ≡ map (changed_if v.device.proxy.id change) ds
first_is p change [] from v rise e = absurd cc
first_is p change (x ∷ ds) from v rise e = first_at p change x ds v rise.1 (p x) e (first_is p change ds (x.device.proxy.id + 1) v rise.1)

found_changed_at : (test : DeviceView → Bool) (change : DeviceView → DeviceView) (x v : DeviceView) (ds : List DeviceView) (b : Bool) → test x ≡ b → test (change x) ≡ test x → (find test ds ≡ Some v → find test (changed_first test change ds) ≡ Some (change v)) →
    cond b (Some x) (find test ds) ≡ Some v → find test (cond b (change x ∷ ds) (x ∷ changed_first test change ds)) ≡ Some (change v)
found_changed_at test change x v ds true t k rest e = let same : x ≡ v = cc in rw (k, t) (ap (λ (w : DeviceView). Some (change w)) same)
found_changed_at test change x v ds false t k rest e = rw t (rest e)

pub found_changed : (test : DeviceView → Bool) (change : DeviceView → DeviceView) → ((x : DeviceView) → test (change x) ≡ test x) → (ds : List DeviceView) (v : DeviceView) → find test ds ≡ Some v → find test (changed_first test change ds) ≡ Some (change v)
found_changed test change k [] v e = absurd cc
found_changed test change k (x ∷ ds) v e = found_changed_at test change x v ds (test x) refl (k x) (λ h. found_changed test change k ds v h) e

-- ---- some are taken out

kept_at : (p keep : DeviceView → Bool) (x v : DeviceView) (ds : List DeviceView) (a b : Bool) → p x ≡ a → keep x ≡ b → cond a (Some x) (find p ds) ≡ Some v → keep v ≡ true → (find p ds ≡ Some v → find p (filter keep ds) ≡ Some v) →
    find p (cond b (x ∷ filter keep ds) (filter keep ds)) ≡ Some v
kept_at p keep x v ds true true ea eb e k rest = rw ea e
kept_at p keep x v ds true false ea eb e k rest = let same : x ≡ v = cc in absurd (let no : true ≡ false = sym k ∙ ap keep (sym same) ∙ eb in cc)
kept_at p keep x v ds false true ea eb e k rest = rw ea (rest e)
kept_at p keep x v ds false false ea eb e k rest = rest e

pub find_kept : (p keep : DeviceView → Bool) (ds : List DeviceView) (v : DeviceView) → find p ds ≡ Some v → keep v ≡ true → find p (filter keep ds) ≡ Some v
find_kept p keep [] v e k = absurd cc
find_kept p keep (x ∷ ds) v e k = kept_at p keep x v ds (p x) (keep x) refl refl e k (λ h. find_kept p keep ds v h k)

none_kept_at : (p keep : DeviceView → Bool) (x : DeviceView) (ds : List DeviceView) (a b : Bool) → p x ≡ a → cond a (Some x) (find p ds) ≡ None → (find p ds ≡ None → find p (filter keep ds) ≡ None) → find p (cond b (x ∷ filter keep ds) (filter keep ds)) ≡ None
none_kept_at p keep x ds true b ea e rest = absurd cc
none_kept_at p keep x ds false true ea e rest = rw ea (rest e)
none_kept_at p keep x ds false false ea e rest = rest e

pub find_none_kept : (p keep : DeviceView → Bool) (ds : List DeviceView) → find p ds ≡ None → find p (filter keep ds) ≡ None
find_none_kept p keep [] e = refl
find_none_kept p keep (x ∷ ds) e = none_kept_at p keep x ds (p x) (keep x) refl e (find_none_kept p keep ds)

gone_at : (p : DeviceView → Bool) (x : DeviceView) (ds : List DeviceView) (a : Bool) → p x ≡ a → find p (filter (λ d. not (p d)) ds) ≡ None → find p (cond (not a) (x ∷ filter (λ d. not (p d)) ds) (filter (λ d. not (p d)) ds)) ≡ None
gone_at p x ds true e rest = rest
gone_at p x ds false e rest = rw e rest

pub find_gone : (p : DeviceView → Bool) (ds : List DeviceView) → find p (filter (λ d. not (p d)) ds) ≡ None
find_gone p [] = refl
find_gone p (x ∷ ds) = gone_at p x ds (p x) refl (find_gone p ds)

lower : (ds : List DeviceView) (from low : ℕ) → RiseFrom from ds → low ≤ from → RiseFrom low ds
lower [] from low rise le = tt
lower (x ∷ ds) from low rise le = (omega (arith, rise.0), rise.1)

rises_at : (keep : DeviceView → Bool) (x : DeviceView) (ds : List DeviceView) (from : ℕ) (b : Bool) → from ≤ x.device.proxy.id → RiseFrom (x.device.proxy.id + 1) (filter keep ds) → RiseFrom from (cond b (x ∷ filter keep ds) (filter keep ds))
rises_at keep x ds from true le rest = (le, rest)
rises_at keep x ds from false le rest = lower (filter keep ds) (x.device.proxy.id + 1) from rest (omega arith)

pub rises_kept : (keep : DeviceView → Bool) (ds : List DeviceView) (from : ℕ) → RiseFrom from ds → RiseFrom from (filter keep ds)
rises_kept keep [] from rise = tt
rises_kept keep (x ∷ ds) from rise = rises_at keep x ds from (keep x) rise.0 (rises_kept keep ds (x.device.proxy.id + 1) rise.1)

-- ---- one is taken out

all_kept : (ds : List DeviceView) (from id : ℕ) → RiseFrom from ds → id < from → filter (λ d. not (is_device id d)) ds ≡ ds
all_kept [] from id rise lt = refl
all_kept (x ∷ ds) from id rise lt =
    let other : nat_eq x.device.proxy.id id ≡ false = grind (arith, nat_tests, rise.0) in
    rw other (ap (λ (ys : List DeviceView). x ∷ ys) (all_kept ds (x.device.proxy.id + 1) id rise.1 (omega (arith, rise.0))))

without_at : (id : ℕ) (x : DeviceView) (ds : List DeviceView) (b : Bool) → RiseFrom (x.device.proxy.id + 1) ds → is_device id x ≡ b → without_first (is_device id) ds ≡ filter (λ d. not (is_device id d)) ds →
    cond b ds (x ∷ without_first (is_device id) ds) ≡ cond (not b) (x ∷ filter (λ d. not (is_device id d)) ds) (filter (λ d. not (is_device id d)) ds)
without_at id x ds true rise t rest = let same : x.device.proxy.id ≡ id = grind (arith, nat_tests) in sym (all_kept ds (x.device.proxy.id + 1) id rise (omega arith))
without_at id x ds false rise t rest = ap (λ (ys : List DeviceView). x ∷ ys) rest

-- by rising ids the first is the only one
pub first_gone : (id : ℕ) (ds : List DeviceView) (from : ℕ) → RiseFrom from ds → without_first (is_device id) ds ≡ filter (λ d. not (is_device id d)) ds
first_gone id [] from rise = refl
first_gone id (x ∷ ds) from rise = without_at id x ds (is_device id x) rise.1 refl (first_gone id ds (x.device.proxy.id + 1) rise.1)

changed_gone : (test : DeviceView → Bool) (change : DeviceView → DeviceView) (x : DeviceView) (ds : List DeviceView) (b : Bool) → test x ≡ b → test (change x) ≡ test x → without_first test (changed_first test change ds) ≡ without_first test ds →
    without_first test (cond b (change x ∷ ds) (x ∷ changed_first test change ds)) ≡ cond b ds (x ∷ without_first test ds)
changed_gone test change x ds true t k rest = rw (k, t) refl
changed_gone test change x ds false t k rest = rw t (ap (λ (ys : List DeviceView). x ∷ ys) rest)

-- a change of what is taken out doesn't matter
pub gone_changed : (test : DeviceView → Bool) (change : DeviceView → DeviceView) → ((x : DeviceView) → test (change x) ≡ test x) → (ds : List DeviceView) → without_first test (changed_first test change ds) ≡ without_first test ds
gone_changed test change k [] = refl
gone_changed test change k (x ∷ ds) = changed_gone test change x ds (test x) refl (k x) (gone_changed test change k ds)

-- tests that agree on all take out the same
pub without_same : (p q : DeviceView → Bool) (ds : List DeviceView) → AllByRecursion (λ v. p v ≡ q v) ds → without_first p ds ≡ without_first q ds
without_same p q [] h = refl
without_same p q (x ∷ ds) h = rw (h.0, without_same p q ds h.1) refl
