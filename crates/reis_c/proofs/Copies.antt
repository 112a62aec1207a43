-- A list that is copied item by item over the front of another.
use Rattle.std.proofs.Common.{◌≡◌, ℕ, zero, suc, ◌+◌, ◌<◌, List, [], ◌∷◌, ◌++◌, length, take, drop, map, get_or, refl, ap, sym, subst, arith, add-one}
use lib.ListN.{set}

copied_suc : {A B : Type 0} (f : A → B) (i : ℕ) (d : A) (from : List A) (start : List B) → i < length from → i < length start
    → set (map f (take i from) ++ drop i start) i (f (get_or from i d)) ≡ map f (take (suc i) from) ++ drop (suc i) start
copied_suc f i d [] start h k = absurd (omega arith)
copied_suc f i d (x ∷ from) [] h k = absurd (omega arith)
copied_suc f zero d (x ∷ from) (y ∷ start) h k = refl
copied_suc f (suc i) d (x ∷ from) (y ∷ start) h k = ap (λ l. f x ∷ l) (copied_suc f i d from start (omega arith) (omega arith))

-- one item more
pub copied_more : {A B : Type 0} (f : A → B) (i : ℕ) (d : A) (from : List A) (room start : List B) → i < length from → i < length start
    → room ≡ map f (take i from) ++ drop i start → set room i (f (get_or from i d)) ≡ map f (take (i + 1) from) ++ drop (i + 1) start
copied_more f i d from room start h k e =
    rw (add-one i) (subst (λ (r : List _). set r i (f (get_or from i d)) ≡ map f (take (suc i) from) ++ drop (suc i) start) (sym e)
    (copied_suc f i d from start h k))
