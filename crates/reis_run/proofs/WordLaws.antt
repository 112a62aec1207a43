-- What `parse` gives of a plain decimal.
use Rattle.std.proofs.Common.{◌≡◌, ◌<◌, ◌≤◌, ◌^◌, ◌⊎◌, inl, inr, ℕ, List, [], ◌∷◌, length, refl, ap, sym, ◌∙◌, arith, rules, Ok, Err, Some, None}
use Rattle.std.specs.Prelude.{Bool, true, false, ◌&&◌, not, ◌==◌, nat_le, Result}
use Rattle.std.specs.Char.{is_ascii_digit}
use Rattle.std.specs.List.{list_all}
use Rattle.std.specs.Str.{all_ascii_digits}
use Rattle.std.specs.Str.Parse.{ParsesUnsigned}
use Rattle.std.proofs.lemmas.Str.Parse.{IsNumeralModel, numerals_by_fold, tells_all_ascii_digits, parse_digits}
use Rattle.reis_run.specs.Words.{decimal_behind, decimal_of, is_plain, number_of}

all_same : (bs : List ℕ) → list_all is_ascii_digit bs ≡ all_ascii_digits bs
all_same [] = refl
all_same (b ∷ bs) = ap (λ t. is_ascii_digit b && t) (all_same bs)

own : IsNumeralModel (λ ds. all_ascii_digits ds ≡ true) (decimal_behind 0)
own = numerals_by_fold _ tells_all_ascii_digits decimal_behind (search rules)

and_right : (a b : Bool) → (a && b) ≡ true → b ≡ true
and_right true b e = e
and_right false b e = cc

digits_of_plain : (bs : List ℕ) → is_plain bs ≡ true → all_ascii_digits bs ≡ true
digits_of_plain [] plain = cc
digits_of_plain (d ∷ []) plain = rw plain refl
digits_of_plain (d ∷ e ∷ ds) plain = sym (all_same (d ∷ e ∷ ds)) ∙ and_right (not (d == 48)) (list_all is_ascii_digit (d ∷ e ∷ ds)) plain

length_of_plain : (bs : List ℕ) → is_plain bs ≡ true → 0 < length bs
length_of_plain [] plain = cc
length_of_plain (d ∷ ds) plain = omega arith

within_limit : (bs : List ℕ) (limit : ℕ) → is_plain bs ≡ true → decimal_of bs ≤ limit → number_of limit bs ≡ Some (decimal_of bs)
within_limit bs limit plain le = let fits : nat_le (decimal_of bs) limit ≡ true = grind arith in rw (plain, fits) refl

over_limit : (bs : List ℕ) (limit : ℕ) → is_plain bs ≡ true → limit < decimal_of bs → number_of limit bs ≡ None
over_limit bs limit plain lt = let over : nat_le (decimal_of bs) limit ≡ false = grind arith in rw (plain, over) refl

pub parsed : {E : Type 0} (bs : List ℕ) (n limit : ℕ) (r : Result ℕ E) → ParsesUnsigned 32 10 bs r → r ≡ Ok n → is_plain bs ≡ true → n ≤ limit → Some n ≡ number_of limit bs
parsed bs n limit r h is plain le =
    let p = rw is at (parse_digits own 32 bs r h (digits_of_plain bs plain)) in
    ap (λ k. Some k) p.1 ∙ sym (within_limit bs limit plain (omega (arith, p.1)))

pub parsed_over : {E : Type 0} (bs : List ℕ) (n limit : ℕ) (r : Result ℕ E) → ParsesUnsigned 32 10 bs r → r ≡ Ok n → is_plain bs ≡ true → limit < n → None ≡ number_of limit bs
parsed_over bs n limit r h is plain lt =
    let p = rw is at (parse_digits own 32 bs r h (digits_of_plain bs plain)) in
    sym (over_limit bs limit plain (omega (arith, p.1)))

below_or : (n m : ℕ) → (n < m) ⊎ (m ≤ n)
below_or n m = grind arith

pub parsed_none : {E : Type 0} (bs : List ℕ) (limit : ℕ) (r : Result ℕ E) (e : E) → ParsesUnsigned 32 10 bs r → r ≡ Err e → is_plain bs ≡ true → limit < 2 ^ 32 → None ≡ number_of limit bs
parsed_none bs limit r e h is plain fits =
    let p = rw is at (parse_digits own 32 bs r h (digits_of_plain bs plain)) in
    let over : limit < decimal_of bs =
    elim (below_or (decimal_of bs) (2 ^ 32)) [ inl below ↦ absurd (p (length_of_plain bs plain, below)) | inr above ↦ omega arith ] in
    sym (over_limit bs limit plain over)
