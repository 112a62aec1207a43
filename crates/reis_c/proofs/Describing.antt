-- Regions of which none is bad, one after another.
use Rattle.std.proofs.Common.{◌≡◌, ℕ, zero, suc, ◌+◌, ◌<◌, Bool, true, false, List, [], ◌∷◌, ◌++◌, length, get_or, take, refl, ap, sym, ◌∙◌, append_assoc, add-one, arith}
use Rattle.std.specs.List.{flat_map, list_any}
use Rattle.std.proofs.lemmas.Grind.{common_steps}
use Rattle.std.proofs.lemmas.List.Folds.{list_any_at}

is_not : (b : Bool) → (b ≡ true → ⊥) → b ≡ false
is_not true h = absurd (h refl)
is_not false h = refl

-- where none passes the test, the one at a place doesn't
pub none_bad : {X : Type 0} (p : X → Bool) (xs : List X) (i : ℕ) (d : X) → i < length xs → list_any p xs ≡ false → p (get_or xs i d) ≡ false
none_bad p xs i d h e = is_not (p (get_or xs i d)) (λ t. absurd (grind (arith, list_any_at p xs i d h t, e)))

flat_suc : {X A : Type 0} (f : X → List A) (xs : List X) (i : ℕ) (d : X) → i < length xs
    → flat_map f (take (suc i) xs) ≡ flat_map f (take i xs) ++ f (get_or xs i d)
flat_suc f [] i d h = absurd (omega arith)
flat_suc f (x ∷ xs) zero d h = grind (arith, common_steps)
flat_suc f (x ∷ xs) (suc i) d h =
    ap (λ l. f x ++ l) (flat_suc f xs i d (omega arith)) ∙ sym (append_assoc (f x) (flat_map f (take i xs)) (f (get_or xs i d)))

-- what comes of one item more
pub flat_more : {X A : Type 0} (f : X → List A) (xs : List X) (i : ℕ) (d : X) → i < length xs
    → flat_map f (take (i + 1) xs) ≡ flat_map f (take i xs) ++ f (get_or xs i d)
flat_more f xs i d h = rw (add-one i) (flat_suc f xs i d h)

-- the same of a list in which these were added behind others
pub added_more : {X A : Type 0} (f : X → List A) (xs : List X) (i : ℕ) (d : X) (start before after : List A) → i < length xs
    → before ≡ start ++ flat_map f (take i xs) → after ≡ before ++ f (get_or xs i d) → after ≡ start ++ flat_map f (take (i + 1) xs)
added_more f xs i d start before after h e g =
    g ∙ ap (λ l. l ++ f (get_or xs i d)) e ∙ append_assoc start (flat_map f (take i xs)) (f (get_or xs i d))
    ∙ ap (λ l. start ++ l) (sym (flat_more f xs i d h))
