-- Values and kinds, one by one.
use Rattle.std.proofs.Common.{◌≡◌, ℕ, ◌+◌, ◌<◌, ◌≤◌, ◌&&◌, false, List, [], ◌∷◌, ◌++◌, map, take, drop, length, get_or, refl, sym, ap, subst, ◌∙◌, arith, None, Result, Ok, Err}
use Rattle.std.specs.Prelude.{zero, suc, OnOk}
use Rattle.std.specs.List.{flat_map}
use Rattle.std.proofs.Common.{append_assoc, append-nil}
use Rattle.std.proofs.lemmas.Bool.{and_right}
use Rattle.std.proofs.lemmas.List.{drop_more, drop_all, take_more, take_all, map-append, length-map, length-take}
use Rattle.ei_rows.specs.declared.table.ArgKind.{ArgKind}
use Rattle.ei_rows.specs.Parts.{kind_view}
use Rattle.ei_spec.specs.Value.{Kind, U32, I32, U64, I64, Float, Text, Nullable, Handle, New, Choice, OpenChoice, Value, IsOf}
use Rattle.ei_spec.specs.Arguments.{AreOf}
use Rattle.ei_wire.specs.Gives.{value_of_arg}
use Rattle.ei_wire.specs.declared.arg.Arg.{Arg}
use Rattle.ei_spec.specs.Rows.{new_id, name_in}
use Rattle.ei_spec.specs.Interface.{known_of}
use Rattle.ei_values.specs.declared.value.Value.{Value as Stored}
use Rattle.ei_values.specs.Stored.{value_view, fits_kind, all_fit, fills, IsLawful, AreLawful, stored_as, all_stored}

pub fit_more : (kinds : List ArgKind) (values : List Stored) (i : ℕ) (k : ArgKind) (v : Stored) → i < length kinds → i < length values →
    all_fit (map kind_view (drop i kinds)) (drop i values)
    ≡ (fits_kind (kind_view (get_or kinds i k)) (get_or values i v) && all_fit (map kind_view (drop (i + 1) kinds)) (drop (i + 1) values))
fit_more kinds values i k v a b = rw (drop_more kinds i k a, drop_more values i v b) refl

-- as many values as kinds
pub same_length : (kinds : List ArgKind) (values : List Stored) → (length kinds ≡ length values → ⊥) → all_fit (map kind_view kinds) values ≡ false
same_length [] [] other = absurd (other refl)
same_length [] (v ∷ values) other = refl
same_length (k ∷ kinds) [] other = refl
same_length (k ∷ kinds) (v ∷ values) other =
    and_right (fits_kind (kind_view k) v) (all_fit (map kind_view kinds) values) (same_length kinds values (λ e. other (ap suc e)))

no_values : (kinds : List Kind) → new_id kinds [] ≡ 0
no_values [] = refl
no_values (U32 ∷ ks) = refl
no_values (I32 ∷ ks) = refl
no_values (U64 ∷ ks) = refl
no_values (I64 ∷ ks) = refl
no_values (Float ∷ ks) = refl
no_values (Text ∷ ks) = refl
no_values (Nullable ∷ ks) = refl
no_values (Handle ∷ ks) = refl
no_values (New ∷ ks) = refl
no_values (Choice n l ∷ ks) = refl
no_values (OpenChoice ∷ ks) = refl

pub no_id : (kinds : List ArgKind) (values : List Stored) (i : ℕ) → length values ≤ i → new_id (map kind_view (drop i kinds)) (map value_view (drop i values)) ≡ 0
no_id kinds values i le = ap (λ (l : List Stored). new_id (map kind_view (drop i kinds)) (map value_view l)) (drop_all i values le) ∙ no_values (map kind_view (drop i kinds))

pub no_name : (values : List Stored) (i : ℕ) → length values ≤ i → None ≡ known_of (name_in (map value_view (drop i values)))
unfolding known_of
no_name values i le = ap (λ (l : List Stored). known_of (name_in (map value_view l))) (sym (drop_all i values le))

-- ---- one more of the first so many

lawful_behind : (xs : List Stored) (v : Stored) → AreLawful xs → IsLawful v → AreLawful (xs ++ (v ∷ []))
lawful_behind [] v law is = (is, tt)
lawful_behind (x ∷ xs) v law is = (law.0, lawful_behind xs v law.1 is)

pub lawful_more : (xs : List Stored) (i : ℕ) (d : Stored) → i < length xs → AreLawful (take i xs) → IsLawful (get_or xs i d) → AreLawful (take (i + 1) xs)
lawful_more xs i d lt law is = subst AreLawful (sym (take_more xs i d lt)) (lawful_behind (take i xs) (get_or xs i d) law is)

-- what an Ok says
pub ok_of : {T E : Type 0} (r : Result T E) (t : T) (P : Type 0) → r ≡ Ok t → OnOk r P → P
ok_of (Ok x) t P e h = h
ok_of (Err x) t P e h = absurd cc

pub filled_more : (next : ℕ) (xs : List Stored) (i : ℕ) (d : Stored) (before now : List Stored) → i < length xs → before ≡ flat_map (fills next) (take i xs) → now ≡ before ++ fills next (get_or xs i d) → now ≡ flat_map (fills next) (take (i + 1) xs)
filled_more next xs i d before now lt was is =
    is ∙ ap (λ (l : List Stored). l ++ fills next (get_or xs i d)) was ∙ sym (ap (flat_map (fills next)) (take_more xs i d lt) ∙ flat_behind (take i xs))
  where
    flat_behind : (ys : List Stored) → flat_map (fills next) (ys ++ (get_or xs i d ∷ [])) ≡ flat_map (fills next) ys ++ fills next (get_or xs i d)
    flat_behind [] = append-nil (fills next (get_or xs i d))
    flat_behind (y ∷ ys) = ap (λ (l : List Stored). fills next y ++ l) (flat_behind ys) ∙ sym (append_assoc (fills next y) (flat_map (fills next) ys) (fills next (get_or xs i d)))

pub lawful_all : (xs : List Stored) (i : ℕ) → length xs ≤ i → AreLawful (take i xs) → AreLawful xs
lawful_all xs i le law = subst AreLawful (take_all i xs le) law

-- ---- arguments of these kinds

pub of_length : (kinds : List ArgKind) (args : List Arg) → AreOf (map kind_view kinds) (map value_of_arg args) → length kinds ≡ length args
of_length [] [] are = refl
of_length [] (a ∷ args) are = absurd are
of_length (k ∷ kinds) [] are = absurd are
of_length (k ∷ kinds) (a ∷ args) are = ap suc (of_length kinds args are.1)

pub of_at : (kinds : List ArgKind) (args : List Arg) (i : ℕ) (k : ArgKind) (a : Arg) → AreOf (map kind_view kinds) (map value_of_arg args) → i < length kinds → IsOf (kind_view (get_or kinds i k)) (value_of_arg (get_or args i a))
of_at [] args i k a are lt = absurd (omega (arith, lt))
of_at (x ∷ kinds) [] i k a are lt = absurd are
of_at (x ∷ kinds) (y ∷ args) zero k a are lt = are.0
of_at (x ∷ kinds) (y ∷ args) (suc i) k a are lt = of_at kinds args i k a are.1 (omega (arith, lt))

stored_behind : (ks : List Kind) (vs : List Value) (k : Kind) (v : Value) → length ks ≡ length vs → all_stored (ks ++ (k ∷ [])) (vs ++ (v ∷ [])) ≡ all_stored ks vs ++ (stored_as k v ∷ [])
stored_behind [] [] k v e = refl
stored_behind [] (w ∷ vs) k v e = absurd (omega (arith, e))
stored_behind (j ∷ ks) [] k v e = absurd (omega (arith, e))
stored_behind (j ∷ ks) (w ∷ vs) k v e = ap (λ (l : List Stored). stored_as j w ∷ l) (stored_behind ks vs k v (omega (arith, e)))

pub stored_more : (kinds : List ArgKind) (args : List Arg) (i : ℕ) (k : ArgKind) (a : Arg) → i < length kinds → i < length args →
    all_stored (map kind_view (take (i + 1) kinds)) (map value_of_arg (take (i + 1) args))
    ≡ all_stored (map kind_view (take i kinds)) (map value_of_arg (take i args)) ++ (stored_as (kind_view (get_or kinds i k)) (value_of_arg (get_or args i a)) ∷ [])
stored_more kinds args i k a lt lt2 =
    ap (λ (l : List ArgKind). all_stored (map kind_view l) (map value_of_arg (take (i + 1) args))) (take_more kinds i k lt)
    ∙ ap (λ (l : List Arg). all_stored (map kind_view (take i kinds ++ (get_or kinds i k ∷ []))) (map value_of_arg l)) (take_more args i a lt2)
    ∙ ap (λ (l : List Kind). all_stored l (map value_of_arg (take i args ++ (get_or args i a ∷ [])))) (map-append kind_view (take i kinds) (get_or kinds i k ∷ []))
    ∙ ap (λ (l : List Value). all_stored (map kind_view (take i kinds) ++ (kind_view (get_or kinds i k) ∷ [])) l) (map-append value_of_arg (take i args) (get_or args i a ∷ []))
    ∙ stored_behind (map kind_view (take i kinds)) (map value_of_arg (take i args)) (kind_view (get_or kinds i k)) (value_of_arg (get_or args i a))
    (omega (arith, length-map (take i kinds) kind_view, length-map (take i args) value_of_arg, length-take i kinds, length-take i args, lt, lt2))

pub stored_end : (kinds : List ArgKind) (args : List Arg) (i : ℕ) → length kinds ≤ i → length args ≤ i →
    all_stored (map kind_view (take i kinds)) (map value_of_arg (take i args)) ≡ all_stored (map kind_view kinds) (map value_of_arg args)
stored_end kinds args i le le2 = rw (take_all i kinds le, take_all i args le2) refl
