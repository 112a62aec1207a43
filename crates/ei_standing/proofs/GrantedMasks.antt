-- The interfaces that a device is granted are those of its mask, where the seat was given all of it.
use Rattle.std.proofs.Common.{◌≡◌, ℕ, ◌^◌, ◌<◌, min, Bool, true, false, cond, ◌&&◌, eqb, List, [], ◌∷◌, Some, None, refl, sym, ap, ◌∙◌, arith}
use Rattle.std.specs.Prelude.{bit_and, map}
use Rattle.std.specs.List.{AllByRecursion}
use Rattle.std.specs.Int.{bit_at}
use Rattle.std.proofs.lemmas.Bool.Decides.{nat_tests}
use Rattle.std.proofs.lemmas.Nat.Bits.{bit_at-lt, bit_at_and}
use Rattle.ei_spec.specs.declared.interface.KnownInterface.{KnownInterface}
use Rattle.ei_types.specs.declared.capability.DeviceCapability.{DeviceCapability}
use Rattle.ei_types.specs.declared.capability.DeviceCapability.TheVariants.{Pointer}
use Rattle.ei_types.specs.Capability.{capability_list, capabilities, index_of, bit_of, interface_of, has_bit}
use Rattle.ei_session.specs.Devices.{interfaces_of}
use Rattle.ei_request.specs.Handling.{set_of}
use Rattle.ei_request.specs.Making.{granted}
use Rattle.ei_standing.proofs.FiltersAlike.{alike}

-- ---- bits

low_both : (a b : ℕ) (x : Bool) → a ≡ min a b → b < 2 → eqb a 1 ≡ x → (eqb b 1 && x) ≡ x
low_both a b true e small t = let one : eqb b 1 ≡ true = grind (arith, nat_tests) in rw one refl
low_both a b false e small t = none (eqb b 1)
  where
    none : (y : Bool) → (y && false) ≡ false
    none true = refl
    none false = refl

bit_is : (d : DeviceCapability) → bit_of d ≡ 2 ^ index_of d
bit_is Pointer = refl
bit_is d = refl

module _ (given mask : ℕ) (within : bit_and mask given ≡ mask) where
  one_bit : (i : ℕ) → (eqb (bit_at given i) 1 && eqb (bit_at mask i) 1) ≡ eqb (bit_at mask i) 1
  one_bit i =
      let both : bit_at mask i ≡ min (bit_at mask i) (bit_at given i) = ap (λ (n : ℕ). bit_at n i) (sym within) ∙ bit_at_and mask given i in
      low_both (bit_at mask i) (bit_at given i) (eqb (bit_at mask i) 1) both (bit_at-lt given i) refl

  one : (bit i : ℕ) (k : KnownInterface) → bit ≡ 2 ^ i → cond (has_bit given bit && has_bit mask bit) (Some k) None ≡ cond (has_bit mask bit) (Some k) None
  one bit i k is = ap (λ (n : ℕ). cond (has_bit given n && has_bit mask n) (Some k) None) is ∙ ap (λ (b : Bool). cond b (Some k) None) (one_bit i) ∙ ap (λ (n : ℕ). cond (has_bit mask n) (Some k) None) (sym is)

  all_alike : (ones : List DeviceCapability) →
      AllByRecursion (λ (c : ℕ × KnownInterface). cond (has_bit given c.0 && has_bit mask c.0) (Some c.1) None ≡ cond (has_bit mask c.0) (Some c.1) None) (map (λ d. (bit_of d, interface_of d)) ones)
  all_alike [] = tt
  all_alike (d ∷ ones) = (one (bit_of d) (index_of d) (interface_of d) (bit_is d), all_alike ones)

  pub granted_is : granted (set_of given) (set_of mask) ≡ interfaces_of mask
  unfolding interfaces_of
  granted_is =
      alike (λ c. cond (has_bit given c.0 && has_bit mask c.0) (Some c.1) None) (λ c. cond (has_bit mask c.0) (Some c.1) None) capabilities (all_alike capability_list)
