-- Names stand for their interfaces, and are short texts.
use Rattle.std.proofs.Common.{◌≡◌, ℕ, ◌<◌, ◌≤◌, ◌^◌, zero, suc, Bool, true, false, cond, leb, List, [], ◌∷◌, length, Option, Some, refl, sym, ap, ◌∙◌, get_or, arith}
use Rattle.std.specs.List.{find, list_any}
use Rattle.std.specs.Str.{bytes_eq, is_utf8, chars}
use Rattle.std.proofs.lemmas.Bool.{leb-true, or_parts}
use Rattle.std.proofs.lemmas.List.Elements.{All-contains}
use Rattle.std.proofs.lemmas.Slice.Eq.{bytes_eq-Decides}
use lib.Utf8.{encode}
use Rattle.ei_spec.specs.declared.interface.KnownInterface.{KnownInterface}
use Rattle.ei_spec.specs.declared.limits.TheConstants.{MOST_NAME_BYTES}
use Rattle.ei_spec.specs.Interface.{name_of, known_of, is_called, server_version, the_interfaces}
use Rattle.ei_spec.proofs.EachInterface.{interfaces, of_each}

-- ---- what stands for an interface is its name

first_has : (b : Bool) (q : List ℕ) (i k : KnownInterface) (rest : Option KnownInterface) → bytes_eq q (name_of i) ≡ b → cond b (Some i) rest ≡ Some k → (rest ≡ Some k → q ≡ name_of k) → q ≡ name_of k
first_has true q i k rest is e f =
    let same : i ≡ k = cc in
    (bytes_eq-Decides q (name_of i)).0 is ∙ ap name_of same
first_has false q i k rest is e f = f e

called_in : (q : List ℕ) (is : List KnownInterface) (k : KnownInterface) → find (is_called q) is ≡ Some k → q ≡ name_of k
called_in q [] k e = absurd cc
called_in q (i ∷ is) k e = first_has (bytes_eq q (name_of i)) q i k (find (is_called q) is) refl e (called_in q is k)

pub called : (q : List ℕ) (i : KnownInterface) → known_of q ≡ Some i → q ≡ name_of i
unfolding known_of
called q i e = called_in q the_interfaces i e

-- ---- a name stands for its interface

-- whether no two of these have one name
abbrev pub apart : List KnownInterface → Bool
apart [] = true
apart (i ∷ is) = cond (list_any (is_called (name_of i)) is) false (apart is)

pub parts_of : (b c : Bool) → cond b false c ≡ true → (b ≡ false) × (c ≡ true)
parts_of true c e = absurd cc
parts_of false c e = (refl, e)

turned : (q r : List ℕ) → bytes_eq q r ≡ false → bytes_eq r q ≡ false
turned q r e = by (bytes_eq r q) refl
  where
    by : (b : Bool) → bytes_eq r q ≡ b → b ≡ false
    by true s = sym ((bytes_eq-Decides q r).1 (sym ((bytes_eq-Decides r q).0 s))) ∙ e
    by false s = refl

none_at : (q : List ℕ) (is : List KnownInterface) (n : ℕ) (d : KnownInterface) → n < length is → list_any (is_called q) is ≡ false → bytes_eq q (name_of (get_or is n d)) ≡ false
none_at q [] n d lt e = absurd (omega arith)
none_at q (i ∷ is) zero d lt e = (or_parts (is_called q i) (list_any (is_called q) is) e).0
none_at q (i ∷ is) (suc n) d lt e = none_at q is n d (omega arith) (or_parts (is_called q i) (list_any (is_called q) is) e).1

found_at : (is : List KnownInterface) (n : ℕ) (d : KnownInterface) → n < length is → apart is ≡ true → find (is_called (name_of (get_or is n d))) is ≡ Some (get_or is n d)
found_at [] n d lt e = absurd (omega arith)
found_at (i ∷ is) zero d lt e = rw ((bytes_eq-Decides (name_of i) (name_of i)).1 refl) refl
found_at (i ∷ is) (suc n) d lt e =
    let parts = parts_of (list_any (is_called (name_of i)) is) (apart is) e in
    let far : bytes_eq (name_of (get_or is n d)) (name_of i) ≡ false = turned (name_of i) (name_of (get_or is n d)) (none_at (name_of i) is n d (omega arith) parts.0) in
    rw far (found_at is n d (omega arith) parts.1)

pub known_again : (i : KnownInterface) → known_of (name_of i) ≡ Some i
unfolding known_of
known_again i = All-contains (λ (k : KnownInterface). find (is_called (name_of k)) the_interfaces ≡ Some k) the_interfaces i (λ n d lt. found_at the_interfaces n d lt refl) (interfaces i)

pub same_interface : (i k : KnownInterface) → name_of i ≡ name_of k → i ≡ k
same_interface i k e =
    let same : Some i ≡ Some k = sym (known_again i) ∙ ap known_of e ∙ known_again k in
    cc

-- ---- names are short texts

pub name_text : (i : KnownInterface) → is_utf8 (name_of i) ≡ true
unfolding is_utf8 chars encode
name_text = of_each (λ (i : KnownInterface). is_utf8 (name_of i)) refl

pub name_short : (i : KnownInterface) → length (name_of i) ≤ MOST_NAME_BYTES
name_short i = leb-true _ MOST_NAME_BYTES (of_each (λ (k : KnownInterface). leb (length (name_of k)) MOST_NAME_BYTES) refl i)

pub version_small : (i : KnownInterface) → server_version i < 2 ^ 32
version_small i =
    let small : server_version i ≤ 4294967295 = leb-true _ 4294967295 (of_each (λ (k : KnownInterface). leb (server_version k) 4294967295) refl i) in
    omega (arith, small)
