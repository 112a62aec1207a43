-- The first that passes a test: the same of keys, and by another test.
use Rattle.std.proofs.Common.{◌≡◌, ℕ, Bool, true, false, cond, ◌&&◌, List, [], ◌∷◌, map, Option, Some, refl, sym, ap, ◌∙◌, arith}
use Rattle.std.specs.Prelude.{find, nat_eq}
use Rattle.std.specs.List.{filter}
use Rattle.std.specs.Option.{option_map}
use Rattle.std.proofs.lemmas.Bool.Decides.{nat_tests}
use Rattle.ei_request.specs.Held.{DeviceView, SeatView, is_device, is_of_key, is_seat, changed_first, without_first}
use Rattle.ei_request.specs.Keys.{same_device_equiv}

-- ---- of what a function gives

find_more : {A B : Type 0} (f : A → B) (x : A) (xs : List A) (b : Bool) (rest : Option B) (found : Option A) → rest ≡ option_map f found → cond b (Some (f x)) rest ≡ option_map f (cond b (Some x) found)
find_more f x xs true rest found e = refl
find_more f x xs false rest found e = e

pub find_of : {A B : Type 0} (f : A → B) (test : B → Bool) (xs : List A) → find test (map f xs) ≡ option_map f (find (λ x. test (f x)) xs)
find_of f test [] = refl
find_of f test (x ∷ xs) = find_more f x xs (test (f x)) (find test (map f xs)) (find (λ x. test (f x)) xs) (find_of f test xs)

without_more : {A B : Type 0} (f : A → B) (x : A) (xs : List A) (b : Bool) (rest : List B) (left : List A) → rest ≡ map f left → cond b (map f xs) (f x ∷ rest) ≡ map f (cond b xs (x ∷ left))
without_more f x xs true rest left e = refl
without_more f x xs false rest left e = ap (λ ys. f x ∷ ys) e

pub without_of : {A B : Type 0} (f : A → B) (test : B → Bool) (xs : List A) → without_first test (map f xs) ≡ map f (without_first (λ x. test (f x)) xs)
without_of f test [] = refl
without_of f test (x ∷ xs) = without_more f x xs (test (f x)) (without_first test (map f xs)) (without_first (λ x. test (f x)) xs) (without_of f test xs)

filter_more : {A B : Type 0} (f : A → B) (x : A) (b : Bool) (rest : List B) (left : List A) → rest ≡ map f left → cond b (f x ∷ rest) rest ≡ map f (cond b (x ∷ left) left)
filter_more f x true rest left e = ap (λ ys. f x ∷ ys) e
filter_more f x false rest left e = e

pub filter_of : {A B : Type 0} (f : A → B) (test : B → Bool) (xs : List A) → filter test (map f xs) ≡ map f (filter (λ x. test (f x)) xs)
filter_of f test [] = refl
filter_of f test (x ∷ xs) = filter_more f x (test (f x)) (filter test (map f xs)) (filter (λ x. test (f x)) xs) (filter_of f test xs)

-- ---- what is found passes

passes_here : {X : Type 0} (test : X → Bool) (y : X) (rest : Option X) (x : X) (b : Bool) → test y ≡ b → (rest ≡ Some x → test x ≡ true) → cond b (Some y) rest ≡ Some x → test x ≡ true
passes_here test y rest x true here later e = let same : y ≡ x = cc in ap test (sym same) ∙ here
passes_here test y rest x false here later e = later e

pub passes : {X : Type 0} (test : X → Bool) (xs : List X) (x : X) → find test xs ≡ Some x → test x ≡ true
passes test [] x e = cc
passes test (y ∷ ys) x e = passes_here test y (find test ys) x (test y) refl (passes test ys x) e

-- ---- two tests whose first is the same

module _ {X : Type 0} (p q : X → Bool) (x : X) (qx : q x ≡ true) (outside : (y : X) → p y ≡ false → q y ≡ false) where
  same_find_here : (y : X) (ys : List X) (b : Bool) → p y ≡ b → (find p ys ≡ Some x → find q ys ≡ Some x) → cond b (Some y) (find p ys) ≡ Some x → find q (y ∷ ys) ≡ Some x
  same_find_here y ys true here rest e = let same : y ≡ x = cc in rw (ap q same ∙ qx) (ap Some same)
  same_find_here y ys false here rest e = rw (outside y here) (rest e)

  pub same_find : (xs : List X) → find p xs ≡ Some x → find q xs ≡ Some x
  same_find [] e = cc
  same_find (y ∷ ys) e = same_find_here y ys (p y) refl (same_find ys) e

  same_without_here : (y : X) (ys : List X) (b : Bool) → p y ≡ b → (find p ys ≡ Some x → without_first q ys ≡ without_first p ys) → cond b (Some y) (find p ys) ≡ Some x →
      without_first q (y ∷ ys) ≡ cond b ys (y ∷ without_first p ys)
  same_without_here y ys true here rest e = let same : y ≡ x = cc in rw (ap q same ∙ qx) refl
  same_without_here y ys false here rest e = rw (outside y here) (ap (λ zs. y ∷ zs) (rest e))

  pub same_without : (xs : List X) → find p xs ≡ Some x → without_first q xs ≡ without_first p xs
  same_without [] e = refl
  same_without (y ∷ ys) e = same_without_here y ys (p y) refl (same_without ys) e

  same_changed_here : (change : X → X) (y : X) (ys : List X) (b : Bool) → p y ≡ b → (find p ys ≡ Some x → changed_first q change ys ≡ changed_first p change ys) → cond b (Some y) (find p ys) ≡ Some x →
      changed_first q change (y ∷ ys) ≡ cond b (change y ∷ ys) (y ∷ changed_first p change ys)
  same_changed_here change y ys true here rest e = let same : y ≡ x = cc in rw (ap q same ∙ qx) refl
  same_changed_here change y ys false here rest e = rw (outside y here) (ap (λ zs. y ∷ zs) (rest e))

  pub same_changed : (change : X → X) (xs : List X) → find p xs ≡ Some x → changed_first q change xs ≡ changed_first p change xs
  same_changed change [] e = refl
  same_changed change (y ∷ ys) e = same_changed_here change y ys (p y) refl (same_changed change ys) e

-- ---- a device by its id, and by its key

eq_true : (a b : ℕ) → nat_eq a b ≡ true → a ≡ b
eq_true a b e = grind (arith, nat_tests)

and_false : (b : Bool) → (b && false) ≡ false
and_false true = refl
and_false false = refl

-- the id of a device that was found by it
pub device_found : (id : ℕ) (ds : List DeviceView) (d : DeviceView) → find (is_device id) ds ≡ Some d → d.device.proxy.id ≡ id
device_found id ds d e = eq_true d.device.proxy.id id (passes (is_device id) ds d e)

pub seat_found : (id : ℕ) (ss : List SeatView) (s : SeatView) → find (is_seat id) ss ≡ Some s → s.proxy.id ≡ id
seat_found id ss s e = eq_true s.proxy.id id (passes (is_seat id) ss s e)

module _ (id : ℕ) (ds : List DeviceView) (d : DeviceView) (found : find (is_device id) ds ≡ Some d) where
  key_self : is_of_key d.device d ≡ true
  key_self = same_device_equiv.refl d.device

  key_outside : (y : DeviceView) → is_device id y ≡ false → is_of_key d.device y ≡ false
  key_outside y other =
      let same : nat_eq y.device.proxy.id d.device.proxy.id ≡ false = ap (λ (n : ℕ). nat_eq y.device.proxy.id n) (device_found id ds d found) ∙ other in
      rw same (and_false (nat_eq y.device.seat.id d.device.seat.id))

  pub by_key : find (is_of_key d.device) ds ≡ Some d
  by_key = same_find (is_device id) (is_of_key d.device) d key_self key_outside ds found

  pub without_key : without_first (is_of_key d.device) ds ≡ without_first (is_device id) ds
  without_key = same_without (is_device id) (is_of_key d.device) d key_self key_outside ds found

  pub changed_key : (change : DeviceView → DeviceView) → changed_first (is_of_key d.device) change ds ≡ changed_first (is_device id) change ds
  changed_key change = same_changed (is_device id) (is_of_key d.device) d key_self key_outside change ds found
