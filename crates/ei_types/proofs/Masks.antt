-- Sets of capabilities as masks.
use Rattle.std.proofs.Common.{◌≡◌, ℕ, zero, suc, ◌+◌, ◌<◌, ◌≤◌, ◌%◌, max, min, Bool, true, ◌||◌, ◌&&◌, eqb, bit_and, List, [], ◌∷◌, length, get_or, refl, sym, ap, ◌∙◌, subst, arith}
use Rattle.std.specs.Int.{bit_at}
use Rattle.std.specs.Int.RustNames.{bit_or}
use Rattle.std.proofs.lemmas.Nat.{and_mask, and_le_r, or_lt}
use Rattle.std.proofs.lemmas.Nat.Bits.{bit_at_and, bit_at_or, bit_at-lt, same_from_bits_below}
use Rattle.std.proofs.lemmas.Bool.{eqb-true, eq-eqb, and_parts}
use Rattle.ei_types.specs.declared.capability.DeviceCapability.{DeviceCapability}
use Rattle.ei_types.specs.declared.capability.DeviceCapability.TheVariants.{Pointer}
use Rattle.ei_spec.specs.declared.limits.TheConstants.{CAPABILITIES}
use Rattle.ei_types.specs.Capability.{bit_of, has_bit, index_of, capability_list, all_bits}

-- a number has no bit beyond these where it is no larger than all of them
pub known_bits : (n : ℕ) → bit_and n all_bits ≡ n % (all_bits + 1)
known_bits n = and_mask n CAPABILITIES

-- a capability's bit is the one at its place
at_place : (n : ℕ) (one : DeviceCapability) → has_bit n (bit_of one) ≡ eqb (bit_at n (index_of one)) 1
at_place n Pointer = refl
at_place n one = refl

-- the places rise by one from n on
abbrev rise : ℕ → List DeviceCapability → Bool
rise n [] = true
rise n (one ∷ more) = eqb (index_of one) n && rise (n + 1) more

place_in : (n : ℕ) (all : List DeviceCapability) (i : ℕ) (d : DeviceCapability) → rise n all ≡ true → i < length all → index_of (get_or all i d) ≡ n + i
place_in n [] i d h lt = absurd (omega arith)
place_in n (one ∷ more) zero d h lt = omega (arith, eqb-true (index_of one) n (and_parts (eqb (index_of one) n) (rise (n + 1) more) h).0)
place_in n (one ∷ more) (suc i) d h lt = omega (arith, place_in (n + 1) more i d (and_parts (eqb (index_of one) n) (rise (n + 1) more) h).1 (omega arith))

-- what holds at the place of each capability holds at each place
at_each : (P : ℕ → Type 0) → ((one : DeviceCapability) → P (index_of one)) → (i : ℕ) → i < CAPABILITIES → P i
at_each P h i lt =
    let here : index_of (get_or capability_list i Pointer) ≡ i = omega (arith, place_in 0 capability_list i Pointer refl lt) in
    subst P here (h (get_or capability_list i Pointer))

either : (x y : ℕ) → x < 2 → y < 2 → eqb (max x y) 1 ≡ (eqb x 1 || eqb y 1)
either zero zero p q = refl
either zero (suc zero) p q = refl
either (suc zero) zero p q = refl
either (suc zero) (suc zero) p q = refl
either (suc (suc x)) y p q = absurd (omega arith)
either x (suc (suc y)) p q = absurd (omega arith)

smaller : (x y : ℕ) → x < 2 → y < 2 → (eqb y 1 ≡ true → eqb x 1 ≡ true) → min x y ≡ y
smaller x zero p q h = omega arith
smaller x (suc zero) p q h = let one : x ≡ 1 = eqb-true x 1 (h refl) in omega arith
smaller x (suc (suc y)) p q h = absurd (omega arith)

-- a union has what one of the two has
pub union_has : (a b : ℕ) (one : DeviceCapability) → has_bit (bit_or a b) (bit_of one) ≡ (has_bit a (bit_of one) || has_bit b (bit_of one))
union_has a b one =
    let i = index_of one in
    rw (at_place (bit_or a b) one, at_place a one, at_place b one, bit_at_or a b (index_of one)) (either (bit_at a i) (bit_at b i) (bit_at-lt a i) (bit_at-lt b i))

pub union_known : (a b : ℕ) → a ≤ all_bits → b ≤ all_bits → bit_or a b ≤ all_bits
union_known a b p q = omega (arith, or_lt CAPABILITIES a b (omega arith) (omega arith))

-- a set that contains another has each of its capabilities
pub contained : (a b : ℕ) → bit_and a b ≡ b → (one : DeviceCapability) → has_bit b (bit_of one) ≡ true → has_bit a (bit_of one) ≡ true
contained a b e one h =
    let i = index_of one in
    let here : bit_at b i ≡ 1 = eqb-true _ _ (sym (at_place b one) ∙ h) in
    let both : bit_at b i ≡ min (bit_at a i) (bit_at b i) = ap (λ (n : ℕ). bit_at n i) (sym e) ∙ bit_at_and a b i in
    at_place a one ∙ eq-eqb _ _ (omega (arith, bit_at-lt a i))

-- and a set of capabilities is contained where each of its capabilities is
pub contains_known : (a b : ℕ) → b ≤ all_bits → ((one : DeviceCapability) → has_bit b (bit_of one) ≡ true → has_bit a (bit_of one) ≡ true) → bit_and a b ≡ b
contains_known a b le h = same_from_bits_below CAPABILITIES (bit_and a b) b (omega (arith, and_le_r a b)) (omega arith) (at_each (λ i. bit_at (bit_and a b) i ≡ bit_at b i) at_one)
  where
    at_one : (one : DeviceCapability) → bit_at (bit_and a b) (index_of one) ≡ bit_at b (index_of one)
    at_one one =
        bit_at_and a b (index_of one)
        ∙ smaller _ _ (bit_at-lt a (index_of one)) (bit_at-lt b (index_of one)) (λ e. sym (at_place a one) ∙ h one (at_place b one ∙ e))
