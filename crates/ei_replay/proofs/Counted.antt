-- How many interfaces a mask has: one for each of its capabilities.
use Rattle.std.proofs.Common.{◌≡◌, ℕ, suc, Bool, true, false, cond, List, [], ◌∷◌, length, Some, None, refl, ap}
use Rattle.std.specs.Prelude.{map}
use Rattle.std.specs.List.{filter, filter_map}
use Rattle.ei_spec.specs.declared.interface.KnownInterface.{KnownInterface}
use Rattle.ei_types.specs.Capability.{bit_of, has_bit, interface_of, capability_list}
use Rattle.ei_types.specs.declared.capability.DeviceCapability.{DeviceCapability}
use Rattle.ei_session.specs.Devices.{interfaces_of}

one_by_one : (mask : ℕ) (cs : List DeviceCapability) → length (filter_map (λ (c : ℕ × KnownInterface). cond (has_bit mask c.0) (Some c.1) None) (map (λ one. (bit_of one, interface_of one)) cs)) ≡ length (filter (λ one. has_bit mask (bit_of one)) cs)
one_by_one mask [] = refl
one_by_one mask (c ∷ cs) = by (has_bit mask (bit_of c)) refl (one_by_one mask cs)
  where
    by : (b : Bool) → has_bit mask (bit_of c) ≡ b → length (filter_map (λ (c : ℕ × KnownInterface). cond (has_bit mask c.0) (Some c.1) None) (map (λ one. (bit_of one, interface_of one)) cs)) ≡ length (filter (λ one. has_bit mask (bit_of one)) cs) →
        length (filter_map (λ (c : ℕ × KnownInterface). cond (has_bit mask c.0) (Some c.1) None) (map (λ one. (bit_of one, interface_of one)) (c ∷ cs))) ≡ length (filter (λ one. has_bit mask (bit_of one)) (c ∷ cs))
    by true e ih = rw e (ap suc ih)
    by false e ih = rw e ih

pub counted : (mask : ℕ) → length (interfaces_of mask) ≡ length (filter (λ one. has_bit mask (bit_of one)) capability_list)
unfolding interfaces_of
counted mask = one_by_one mask capability_list
