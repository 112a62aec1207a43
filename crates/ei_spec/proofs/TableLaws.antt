-- The table's opcodes and names differ.
use Rattle.std.proofs.Common.{◌≡◌, ℕ, Bool, true, false, cond, ◌||◌, List, [], ◌∷◌, length, refl}
use Rattle.std.specs.List.{IsDistinct, AllByRecursion, list_any, list_all, range_with_len}
use Rattle.std.specs.Str.{bytes_eq}
use Rattle.std.proofs.lemmas.Slice.Eq.{bytes_eq-Decides}
use Rattle.ei_spec.specs.declared.interface.KnownInterface.{KnownInterface}
use Rattle.ei_spec.specs.Interface.{the_interfaces}
use Rattle.ei_spec.specs.Table.{table, opcodes, names}
use Rattle.ei_spec.proofs.EachInterface.{of_each}

abbrev are_in_order : Bool → KnownInterface → Bool
are_in_order events interface = bytes_eq (opcodes events interface) (range_with_len 0 (length (table events interface)))

pub in_order : (events : Bool) (interface : KnownInterface) → opcodes events interface ≡ range_with_len 0 (length (table events interface))
in_order events interface = (bytes_eq-Decides _ _).0 (of_each (are_in_order events) (computed events) interface)
  where
    computed : (events : Bool) → list_all (are_in_order events) the_interfaces ≡ true
    computed false = refl
    computed true = refl

-- ---- names

-- whether no name stands twice, as it is computed
abbrev no_twice : List (List ℕ) → Bool
no_twice [] = true
no_twice (x ∷ xs) = cond (list_any (bytes_eq x) xs) false (no_twice xs)

none_equal : (x : List ℕ) (xs : List (List ℕ)) → list_any (bytes_eq x) xs ≡ false → AllByRecursion (λ y. bytes_eq x y ≡ false) xs
none_equal x [] e = tt
none_equal x (y ∷ ys) e = let two = neither (bytes_eq x y) (list_any (bytes_eq x) ys) e in (two.0, none_equal x ys two.1)
  where
    neither : (a b : Bool) → (a || b) ≡ false → (a ≡ false) × (b ≡ false)
    neither true b e = absurd cc
    neither false b e = (refl, e)

distinct_head : (x : List ℕ) (xs : List (List ℕ)) (b : Bool) → list_any (bytes_eq x) xs ≡ b → cond b false (no_twice xs) ≡ true → (b ≡ false) × (no_twice xs ≡ true)
distinct_head x xs true e h = absurd cc
distinct_head x xs false e h = (refl, h)

pub distinct : (xs : List (List ℕ)) → no_twice xs ≡ true → IsDistinct bytes_eq xs
unfolding IsDistinct
distinct [] h = tt
distinct (x ∷ xs) h = let two = distinct_head x xs (list_any (bytes_eq x) xs) refl h in (none_equal x xs two.0, distinct xs two.1)

pub names_differ : (events : Bool) (interface : KnownInterface) → IsDistinct bytes_eq (names events interface)
names_differ events interface = distinct (names events interface) (of_each (λ (i : KnownInterface). no_twice (names events i)) (computed events) interface)
  where
    computed : (events : Bool) → list_all (λ (i : KnownInterface). no_twice (names events i)) the_interfaces ≡ true
    computed false = refl
    computed true = refl
