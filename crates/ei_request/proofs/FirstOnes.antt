-- The first that passes a test, changed in place or taken out.
use Rattle.std.proofs.Common.{◌≡◌, ℕ, zero, suc, ◌<◌, Bool, true, false, cond, ◌||◌, List, [], ◌∷◌, length, get_or, Option, Some, None, refl, sym, ap}
use Rattle.std.proofs.Common.{◌∙◌, arith}
use Rattle.std.specs.Prelude.{find, position, nat_lt, ◌≤◌}
use Rattle.std.proofs.lemmas.List.Folds.{find_at}
use Rattle.std.proofs.lemmas.Option.{slice_get_past}
use Rattle.std.specs.Prelude.{slice_set}
use Rattle.std.specs.List.{position_or_len, list_any}
use Rattle.std.proofs.Math.ListN.{set}
use Rattle.std.proofs.lemmas.Bool.Decides.{nat_tests}
use Rattle.std.proofs.lemmas.List.Quantifiers.{position-Some}
use Rattle.ei_request.specs.Held.{changed_first, without_first}
use Rattle.std.specs.List.{remove as removed_at}

-- at the place of the first that passes
set_first : {X : Type 0} (test : X → Bool) (change : X → X) (ds : List X) (i : ℕ) (d : X) → i < length ds → test (get_or ds i d) ≡ true → ((k : ℕ) → k < i → test (get_or ds k d) ≡ false) →
    set ds i (change (get_or ds i d)) ≡ changed_first test change ds
set_first test change [] i d lt here before = absurd (omega (arith, lt))
set_first test change (x ∷ ds) zero d lt here before = rw here refl
set_first test change (x ∷ ds) (suc i) d lt here before = rw (before 0 (omega arith)) (ap (λ ys. x ∷ ys) (set_first test change ds i d (omega (arith, lt)) here (λ k below. before (suc k) (omega arith))))

pub changed_at : {X : Type 0} (test : X → Bool) (change : X → X) (ds : List X) (i : ℕ) (d : X) → position test ds ≡ Some i →
    set ds i (change (get_or ds i d)) ≡ changed_first test change ds
changed_at test change ds i d e = let h = position-Some test ds i d e in set_first test change ds i d h.0 h.1 h.2

find_first : {X : Type 0} (test : X → Bool) (ds : List X) (i : ℕ) (d : X) → i < length ds → test (get_or ds i d) ≡ true → ((k : ℕ) → k < i → test (get_or ds k d) ≡ false) → find test ds ≡ Some (get_or ds i d)
find_first test [] i d lt here before = absurd (omega (arith, lt))
find_first test (x ∷ ds) zero d lt here before = rw here refl
find_first test (x ∷ ds) (suc i) d lt here before = rw (before 0 (omega arith)) (find_first test ds i d (omega (arith, lt)) here (λ k below. before (suc k) (omega arith)))

-- what is found is at its place
pub found_at : {X : Type 0} (test : X → Bool) (ds : List X) (i : ℕ) (d : X) → position test ds ≡ Some i → find test ds ≡ Some (get_or ds i d)
found_at test ds i d e = let h = position-Some test ds i d e in find_first test ds i d h.0 h.1 h.2

nat_lt_false : (a b : ℕ) → nat_lt a b ≡ false → b ≤ a
nat_lt_false a b e = grind (arith, nat_tests)

chosen_none : (b : Bool) (i : ℕ) → cond b (Some i) None ≡ None → b ≡ false
chosen_none true i e = absurd cc
chosen_none false i e = refl

-- where none passes
pub find_none : {X : Type 0} (test : X → Bool) (ds : List X) → position test ds ≡ None → find test ds ≡ None
find_none test ds e =
    let past : nat_lt (position_or_len test ds) (length ds) ≡ false = chosen_none _ _ e in
    find_at test ds ∙ slice_get_past ds (position_or_len test ds) (nat_lt_false _ _ past)

unchanged : {X : Type 0} (test : X → Bool) (change : X → X) (x : X) (ds : List X) (b : Bool) → test x ≡ b → (find test ds ≡ None → changed_first test change ds ≡ ds) → cond b (Some x) (find test ds) ≡ None → cond b (change x ∷ ds) (x ∷ changed_first test change ds) ≡ x ∷ ds
unchanged test change x ds true p rest e = absurd cc
unchanged test change x ds false p rest e = ap (λ ys. x ∷ ys) (rest e)

pub changed_none : {X : Type 0} (test : X → Bool) (change : X → X) (ds : List X) → find test ds ≡ None → changed_first test change ds ≡ ds
changed_none test change [] e = refl
changed_none test change (x ∷ ds) e = unchanged test change x ds (test x) refl (changed_none test change ds) e

-- what stands at the place that was looked up is changed
pub changed_here : {X : Type 0} (test : X → Bool) (change : X → X) (ds seen : List X) (r : Option ℕ) (i : ℕ) (x new : X) →
    seen ≡ ds → r ≡ position test seen → r ≡ Some i → x ≡ get_or ds i x → new ≡ change x → slice_set ds i new ≡ changed_first test change ds
changed_here test change ds seen r i x new s p e g n =
    let place : position test ds ≡ Some i = ap (position test) (sym s) ∙ sym p ∙ e in
    ap (set ds i) (n ∙ ap change g) ∙ changed_at test change ds i x place

pub found_here : {X : Type 0} (test : X → Bool) (ds seen : List X) (r : Option ℕ) (i : ℕ) (x : X) →
    seen ≡ ds → r ≡ position test seen → r ≡ Some i → x ≡ get_or ds i x → find test ds ≡ Some x
found_here test ds seen r i x s p e g = found_at test ds i x (ap (position test) (sym s) ∙ sym p ∙ e) ∙ ap Some (sym g)

pub none_here : {X : Type 0} (test : X → Bool) (ds seen : List X) (r : Option ℕ) →
    seen ≡ ds → r ≡ position test seen → r ≡ None → find test ds ≡ None
none_here test ds seen r s p e = find_none test ds (ap (position test) (sym s) ∙ sym p ∙ e)

-- what stands at the place is taken out
removed_first : {X : Type 0} (test : X → Bool) (ds : List X) (i : ℕ) (d : X) → i < length ds → test (get_or ds i d) ≡ true → ((k : ℕ) → k < i → test (get_or ds k d) ≡ false) → removed_at ds i ≡ without_first test ds
removed_first test [] i d lt here before = absurd (omega (arith, lt))
removed_first test (x ∷ ds) zero d lt here before = rw here refl
removed_first test (x ∷ ds) (suc i) d lt here before = rw (before 0 (omega arith)) (ap (λ ys. x ∷ ys) (removed_first test ds i d (omega (arith, lt)) here (λ k below. before (suc k) (omega arith))))

pub removed_here : {X : Type 0} (test : X → Bool) (ds seen : List X) (r : Option ℕ) (i : ℕ) (d : X) → seen ≡ ds → r ≡ position test seen → r ≡ Some i → removed_at ds i ≡ without_first test ds
removed_here test ds seen r i d s p e = let h = position-Some test ds i d (ap (position test) (sym s) ∙ sym p ∙ e) in removed_first test ds i d h.0 h.1 h.2

without_none : {X : Type 0} (test : X → Bool) (x : X) (ds : List X) (b : Bool) → (find test ds ≡ None → without_first test ds ≡ ds) → cond b (Some x) (find test ds) ≡ None → cond b ds (x ∷ without_first test ds) ≡ x ∷ ds
without_none test x ds true rest e = absurd cc
without_none test x ds false rest e = ap (λ ys. x ∷ ys) (rest e)

pub unremoved : {X : Type 0} (test : X → Bool) (ds : List X) → find test ds ≡ None → without_first test ds ≡ ds
unremoved test [] e = refl
unremoved test (x ∷ ds) e = without_none test x ds (test x) (unremoved test ds) e

-- whether one passes
none_more : {X : Type 0} (test : X → Bool) (x : X) (xs : List X) (b : Bool) → (find test xs ≡ None → list_any test xs ≡ false) → cond b (Some x) (find test xs) ≡ None → (b || list_any test xs) ≡ false
none_more test x xs true rest e = absurd cc
none_more test x xs false rest e = rest e

pub any_none : {X : Type 0} (test : X → Bool) (xs : List X) → find test xs ≡ None → list_any test xs ≡ false
any_none test [] e = refl
any_none test (x ∷ xs) e = none_more test x xs (test x) (any_none test xs) e

some_more : {X : Type 0} (test : X → Bool) (x y : X) (xs : List X) (b : Bool) → (find test xs ≡ Some y → list_any test xs ≡ true) → cond b (Some x) (find test xs) ≡ Some y → (b || list_any test xs) ≡ true
some_more test x y xs true rest e = refl
some_more test x y xs false rest e = rest e

pub any_some : {X : Type 0} (test : X → Bool) (xs : List X) (y : X) → find test xs ≡ Some y → list_any test xs ≡ true
any_some test [] y e = absurd cc
any_some test (x ∷ xs) y e = some_more test x y xs (test x) (any_some test xs y) e

-- one passes, where there is a place
pub any_at : {X : Type 0} (test : X → Bool) (xs seen : List X) (r : Option ℕ) (i : ℕ) (d : X) → seen ≡ xs → r ≡ position test seen → r ≡ Some i → list_any test xs ≡ true
any_at test xs seen r i d s p e = any_some test xs (get_or xs i d) (found_at test xs i d (ap (position test) (sym s) ∙ sym p ∙ e))

-- nothing is taken out, where none passes
stays_more : {X : Type 0} (test : X → Bool) (x : X) (xs : List X) (b : Bool) → (list_any test xs ≡ false → without_first test xs ≡ xs) → (b || list_any test xs) ≡ false → cond b xs (x ∷ without_first test xs) ≡ x ∷ xs
stays_more test x xs true rest e = absurd cc
stays_more test x xs false rest e = ap (λ ys. x ∷ ys) (rest e)

pub without_any : {X : Type 0} (test : X → Bool) (xs : List X) → list_any test xs ≡ false → without_first test xs ≡ xs
without_any test [] e = refl
without_any test (x ∷ xs) e = stays_more test x xs (test x) (without_any test xs) e
