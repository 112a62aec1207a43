-- What is wrong with what a call was given, or that nothing is.
use Rattle.std.proofs.Common.{◌≡◌, ℕ, ◌≤◌, Bool, true, false, List, Option, None, refl, arith}
use Rattle.std.specs.Prelude.{nat_lt}
use Rattle.std.specs.Str.{IsUtf8, is_utf8}
use Rattle.std.proofs.lemmas.Str.{is_utf8-from_IsUtf8, IsUtf8-from_is_utf8}
use Rattle.std.proofs.lemmas.Grind.{common_steps}
use Rattle.ei_types.specs.Capability.{all_bits}
use Rattle.reis_c.specs.Given.{Unless, bits_fault}

-- ---- texts

pub is_text : (bytes : List ℕ) → IsUtf8 bytes → is_utf8 bytes ≡ true
is_text bytes h = is_utf8-from_IsUtf8 bytes h

no_text : (bytes : List ℕ) (b : Bool) → is_utf8 bytes ≡ b → ¬ (IsUtf8 bytes) → is_utf8 bytes ≡ false
no_text bytes true e h = absurd (h (IsUtf8-from_is_utf8 bytes e))
no_text bytes false e h = e

pub is_no_text : (bytes : List ℕ) → ¬ (IsUtf8 bytes) → is_utf8 bytes ≡ false
is_no_text bytes h = no_text bytes (is_utf8 bytes) refl h

-- ---- what is answered first

within : (bits : ℕ) → bits ≤ all_bits → nat_lt all_bits bits ≡ false
within bits h = grind (arith, common_steps, h)

module _ {A : Type 0} (bits : ℕ) (old new : A) (Does : Type 0) where
  pub nothing_wrong : (fault : Option ℕ) (answer : ℕ) → bits ≤ all_bits → fault ≡ None → Does → Unless (bits_fault bits fault) answer old new Does
  nothing_wrong fault answer h e does = rw (within bits h, e) does
