-- Where the interface of a capability stands among those of a mask.
use Rattle.std.proofs.Common.{◌≡◌, ℕ, zero, suc, ◌≤◌, Bool, true, false, cond, List, [], ◌∷◌, ◌++◌, length, map, Option, Some, None, refl, arith}
use Rattle.std.specs.Prelude.{slice_get}
use Rattle.std.specs.List.{filter, filter_map}
use Rattle.ei_spec.specs.declared.interface.KnownInterface.{KnownInterface}
use Rattle.ei_types.specs.Capability.{bit_of, interface_of, has_bit}
use Rattle.ei_types.specs.declared.capability.DeviceCapability.{DeviceCapability}
use Rattle.ei_types.specs.declared.capability.DeviceCapability.TheVariants as capability
use Rattle.ei_session.specs.Devices.{interfaces_of}
use Rattle.ei_playing.specs.Playing.{capabilities_below}

abbrev pair : DeviceCapability → ℕ × KnownInterface
pair one = (bit_of one, interface_of one)

abbrev borne : ℕ → ℕ × KnownInterface → Option KnownInterface
borne mask c = cond (has_bit mask c.0) (Some c.1) None

placed : (mask : ℕ) (one : DeviceCapability) (after before : List DeviceCapability) → has_bit mask (bit_of one) ≡ true →
    slice_get (filter_map (borne mask) (map pair (before ++ (one ∷ after)))) (length (filter (λ c. has_bit mask (bit_of c)) before)) ≡ Some (interface_of one)
placed mask one after [] h = rw h refl
placed mask one after (c ∷ cs) h = by (has_bit mask (bit_of c)) refl (placed mask one after cs h)
  where
    by : (b : Bool) → has_bit mask (bit_of c) ≡ b →
        slice_get (filter_map (borne mask) (map pair (cs ++ (one ∷ after)))) (length (filter (λ x. has_bit mask (bit_of x)) cs)) ≡ Some (interface_of one) →
        slice_get (filter_map (borne mask) (map pair ((c ∷ cs) ++ (one ∷ after)))) (length (filter (λ x. has_bit mask (bit_of x)) (c ∷ cs))) ≡ Some (interface_of one)
    by true e next = rw e next
    by false e next = rw e next

-- a mask that has the capability has its interface there
pub interface_placed : (mask : ℕ) (one : DeviceCapability) → has_bit mask (bit_of one) ≡ true → slice_get (interfaces_of mask) (capabilities_below mask one) ≡ Some (interface_of one)
unfolding interfaces_of
interface_placed mask capability.Pointer h = placed mask capability.Pointer (capability.PointerAbsolute ∷ capability.Keyboard ∷ capability.Touch ∷ capability.Scroll ∷ capability.Button ∷ capability.Text ∷ capability.Gesture ∷ []) [] h
interface_placed mask capability.PointerAbsolute h = placed mask capability.PointerAbsolute (capability.Keyboard ∷ capability.Touch ∷ capability.Scroll ∷ capability.Button ∷ capability.Text ∷ capability.Gesture ∷ []) (capability.Pointer ∷ []) h
interface_placed mask capability.Keyboard h = placed mask capability.Keyboard (capability.Touch ∷ capability.Scroll ∷ capability.Button ∷ capability.Text ∷ capability.Gesture ∷ []) (capability.Pointer ∷ capability.PointerAbsolute ∷ []) h
interface_placed mask capability.Touch h = placed mask capability.Touch (capability.Scroll ∷ capability.Button ∷ capability.Text ∷ capability.Gesture ∷ []) (capability.Pointer ∷ capability.PointerAbsolute ∷ capability.Keyboard ∷ []) h
interface_placed mask capability.Scroll h = placed mask capability.Scroll (capability.Button ∷ capability.Text ∷ capability.Gesture ∷ []) (capability.Pointer ∷ capability.PointerAbsolute ∷ capability.Keyboard ∷ capability.Touch ∷ []) h
interface_placed mask capability.Button h = placed mask capability.Button (capability.Text ∷ capability.Gesture ∷ []) (capability.Pointer ∷ capability.PointerAbsolute ∷ capability.Keyboard ∷ capability.Touch ∷ capability.Scroll ∷ []) h
interface_placed mask capability.Text h = placed mask capability.Text (capability.Gesture ∷ []) (capability.Pointer ∷ capability.PointerAbsolute ∷ capability.Keyboard ∷ capability.Touch ∷ capability.Scroll ∷ capability.Button ∷ []) h
interface_placed mask capability.Gesture h = placed mask capability.Gesture [] (capability.Pointer ∷ capability.PointerAbsolute ∷ capability.Keyboard ∷ capability.Touch ∷ capability.Scroll ∷ capability.Button ∷ capability.Text ∷ []) h

-- what is at a place of a list
pub placed_within : {A : Type 0} (xs : List A) (k : ℕ) (x : A) → slice_get xs k ≡ Some x → suc k ≤ length xs
placed_within [] k x h = absurd cc
placed_within (y ∷ ys) zero x h = omega arith
placed_within (y ∷ ys) (suc k) x h = let l = placed_within ys k x h in omega (arith, l)
