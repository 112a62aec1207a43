-- A list that is cut in two ways.
use Rattle.std.proofs.Common.{◌≡◌, ◌≤◌, List, [], ◌∷◌, ◌++◌, length, refl, arith}

-- the first cut lies behind the second
pub split_long : {A : Type 0} (a b c d : List A) → a ++ b ≡ c ++ d → length c ≤ length a → (x : List A) × (a ≡ c ++ x) × (x ++ b ≡ d)
split_long a b [] d e le = (a, refl, e)
split_long [] b (y ∷ c) d e le = absurd (omega (arith, le))
split_long (x ∷ a) b (y ∷ c) d e le =
    let rest = split_long a b c d (cc) (omega (arith, le)) in
    (rest.0, cc rest.1, rest.2)

-- the first cut lies before the second
pub split_short : {A : Type 0} (a b c d : List A) → a ++ b ≡ c ++ d → length a ≤ length c → (x : List A) × (c ≡ a ++ x) × (b ≡ x ++ d)
split_short [] b c d e le = (c, refl, e)
split_short (x ∷ a) b [] d e le = absurd (omega (arith, le))
split_short (x ∷ a) b (y ∷ c) d e le =
    let rest = split_short a b c d (cc) (omega (arith, le)) in
    (rest.0, cc rest.1, rest.2)
