-- A name is looked for among those that are as long.
use Rattle.std.proofs.Common.{◌≡◌, ℕ, Bool, true, false, List, [], ◌∷◌, length, filter, refl, ap, arith}
use Rattle.std.specs.List.{find}
use Rattle.std.specs.Str.{bytes_eq}
use Rattle.std.proofs.lemmas.Slice.Eq.{bytes_eq-Decides}
use Rattle.ei_spec.specs.declared.interface.KnownInterface.{KnownInterface}
use Rattle.ei_spec.specs.Interface.{name_of, known_of, is_called, is_long, the_interfaces}

not_called : (q : List ℕ) (i : KnownInterface) → is_long (length q) i ≡ false → is_called q i ≡ false
not_called q i e = by (bytes_eq q (name_of i)) refl
  where
    by : (b : Bool) → bytes_eq q (name_of i) ≡ b → b ≡ false
    by true s = let same : q ≡ name_of i = (bytes_eq-Decides q (name_of i)).0 s in grind (arith, e, ap length same)
    by false s = refl

found_among : (q : List ℕ) (is : List KnownInterface) → find (is_called q) (filter (is_long (length q)) is) ≡ find (is_called q) is
found_among q [] = refl
found_among q (i ∷ is) = by (is_long (length q) i) refl (found_among q is)
  where
    by : (b : Bool) → is_long (length q) i ≡ b → find (is_called q) (filter (is_long (length q)) is) ≡ find (is_called q) is → find (is_called q) (filter (is_long (length q)) (i ∷ is)) ≡ find (is_called q) (i ∷ is)
    by true e next = rw (e, next) refl
    by false e next = rw (e, not_called q i e) next

-- the interface of a name
pub known_among : (q : List ℕ) → find (is_called q) (filter (is_long (length q)) the_interfaces) ≡ known_of q
unfolding known_of
known_among q = found_among q the_interfaces
