-- The version of what is announced is the last value.
use Rattle.std.proofs.Common.{◌≡◌, ℕ, ◌+◌, ◌<◌, List, [], ◌∷◌, ◌++◌, map, take, length, get_or, refl, ap, ◌∙◌}
use Rattle.std.proofs.lemmas.List.{take_more, map-append}
use Rattle.ei_spec.specs.Value.{Value, Word}
use Rattle.ei_spec.specs.Rows.{version_of}
use Rattle.ei_values.specs.declared.value.Value.{Value as Stored}
use Rattle.ei_values.specs.Stored.{word_in, value_view}

version_behind : (xs : List Value) (v : Value) → version_of (xs ++ (v ∷ [])) ≡ word_in v
version_behind [] (Word n) = refl
version_behind [] v = refl
version_behind (x ∷ []) (Word n) = at x
  where
    at : (x : Value) → version_of (x ∷ Word n ∷ []) ≡ n
    at (Word m) = refl
    at x = refl
version_behind (x ∷ []) v = at x v
  where
    at : (x v : Value) → version_of (x ∷ v ∷ []) ≡ word_in v
    at (Word m) (Word n) = refl
    at (Word m) v = refl
    at x (Word n) = refl
    at x v = refl
version_behind (x ∷ y ∷ xs) v = at x (version_behind (y ∷ xs) v)
  where
    at : (x : Value) → version_of ((y ∷ xs) ++ (v ∷ [])) ≡ word_in v → version_of ((x ∷ y ∷ xs) ++ (v ∷ [])) ≡ word_in v
    at (Word m) h = h
    at x h = h

pub version_more : (xs : List Stored) (i : ℕ) (d : Stored) → i < length xs → version_of (map value_view (take (i + 1) xs)) ≡ word_in (value_view (get_or xs i d))
version_more xs i d l =
    ap (λ (ys : List Stored). version_of (map value_view ys)) (take_more xs i d l)
    ∙ ap version_of (map-append value_view (take i xs) (get_or xs i d ∷ []))
    ∙ version_behind (map value_view (take i xs)) (value_view (get_or xs i d))
