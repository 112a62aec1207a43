use Rattle.std.proofs.Common.{◌≡◌, ℕ, zero, suc, ◌≤◌, Bool, true, false, List, [], ◌∷◌, take, Ok, Err, refl, arith}
use Rattle.std.specs.Prelude.{replicate}
use Rattle.std.specs.Str.{IsUtf8, is_utf8}
use Rattle.std.specs.Str.Lossy.{utf8_valid_len}
use Rattle.std.proofs.lemmas.Str.{is_utf8-from_IsUtf8, IsUtf8-from_is_utf8}
use Rattle.ei_spec.specs.Reading.{Utf8, utf8}

pub utf8_if : (bs : List ℕ) → IsUtf8 bs → utf8 bs ≡ Ok bs
utf8_if bs h = rw (is_utf8-from_IsUtf8 bs h) refl

is_not : (bs : List ℕ) (b : Bool) → is_utf8 bs ≡ b → ¬ (IsUtf8 bs) → is_utf8 bs ≡ false
is_not bs true e h = absurd (h (IsUtf8-from_is_utf8 bs e))
is_not bs false e h = e

pub utf8_if_not : (bs : List ℕ) → ¬ (IsUtf8 bs) → utf8 bs ≡ Err (Utf8 (utf8_valid_len bs))
utf8_if_not bs h = rw (is_not bs (is_utf8 bs) refl h) refl

pub is_text : (bs : List ℕ) → IsUtf8 bs → is_utf8 bs ≡ true
is_text bs h = is_utf8-from_IsUtf8 bs h

pub take_zeros : (n : ℕ) → n ≤ 4 → take {A = ℕ} n (0 ∷ 0 ∷ 0 ∷ 0 ∷ []) ≡ replicate n 0
take_zeros zero h = refl
take_zeros (suc zero) h = refl
take_zeros (suc (suc zero)) h = refl
take_zeros (suc (suc (suc zero))) h = refl
take_zeros (suc (suc (suc (suc zero)))) h = refl
take_zeros (suc (suc (suc (suc (suc n))))) h = absurd (omega arith)
