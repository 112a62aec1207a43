-- The first newline.
use Rattle.std.proofs.Common.{◌≡◌, ◌≤◌, ℕ, zero, suc, ◌+◌, List, ◌∷◌, length, take, drop, slice_index, ap, sym, ◌∙◌, refl, subst, arith, Option, None, Some}
use Rattle.std.proofs.lemmas.Bool.{eqb-true}
use Rattle.std.proofs.lemmas.List.{take_all, drop_more}
use Rattle.std.specs.Prelude.{false}
use Rattle.memchr.specs.Find.{IsFirstByte, Nowhere, Passes, is_byte}
use Rattle.reis_lines.specs.Text.{has_newline}
use Rattle.reis_lines.specs.Held.{FindsNewline}
use Rattle.reis_lines.proofs.TextLaws.{quiet_more}

quiet_to : (bytes : List ℕ) (n : ℕ) → n ≤ length bytes → Nowhere (Passes (is_byte 10) bytes) 0 n → has_newline (take n bytes) ≡ false
quiet_to bytes zero le none = refl
quiet_to bytes (suc n) le none =
    let front = quiet_to bytes n (omega (arith, le)) (λ k low lt. none k low (omega (arith, lt))) in
    let next : n + 1 ≡ suc n = omega arith in
    subst (λ (k : ℕ). has_newline (take k bytes) ≡ false) next (quiet_more bytes n front (omega (arith, le)) (λ e. none n (omega arith) (omega arith) (grind (arith, e))))

-- the first byte that is a newline
pub finds_newline : (found : Option ℕ) (bytes : List ℕ) → IsFirstByte (is_byte 10) bytes found → FindsNewline found bytes
finds_newline None bytes none = ap has_newline (sym (take_all (length bytes) bytes (omega arith))) ∙ quiet_to bytes (length bytes) (omega arith) none
finds_newline (Some n) bytes is = record {
  before = quiet_to bytes n (omega (arith, is.0.high)) is.0.before;
  here = drop_more bytes n 0 is.0.high ∙ ap (λ (b : ℕ). b ∷ drop (n + 1) bytes) (eqb-true (slice_index bytes n) 10 is.1);
  within = is.0.high;
}
