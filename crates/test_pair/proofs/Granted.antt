-- A device that is to get a keyboard has its interface where its seat was given one.
use Rattle.std.proofs.Common.{◌≡◌, ℕ, Bool, true, false, ◌&&◌, ◌||◌, List, [], ◌∷◌, map, Option, Some, None, refl, ap, ◌∙◌}
use Rattle.std.specs.Prelude.{if◌then◌else◌}
use Rattle.std.specs.Option.{option_map}
use Rattle.std.specs.List.{list_any, filter_map}
use Rattle.ei_spec.specs.declared.interface.KnownInterface.{KnownInterface}
use Rattle.ei_spec.specs.declared.interface.KnownInterface.TheVariants as known
use Rattle.ei_types.specs.Capability.{has_bit, bits_of, bit_of, interface_of}
use Rattle.ei_types.specs.declared.capability.DeviceCapabilities.{DeviceCapabilities}
use Rattle.ei_types.specs.declared.capability.DeviceCapability.{DeviceCapability}
use Rattle.ei_types.specs.declared.capability.DeviceCapability.TheVariants.{Pointer, PointerAbsolute, Keyboard, Touch, Scroll, Button, Text, Gesture}
use Rattle.ei_request.specs.Held.{SeatView}
use Rattle.ei_request.specs.Making.{granted, granted_by, is_keyboard, has_keyboard}

-- some item of what a function picks passes a test
later_item : {A : Type 0} (test : A → Bool) (rest : List A) → list_any test rest ≡ true → (b : Bool) → (b || list_any test rest) ≡ true
later_item test rest h true = refl
later_item test rest h false = h

picked_later : {A B : Type 0} (pick : A → Option B) (test : B → Bool) (x : A) (xs : List A) (o : Option B) → pick x ≡ o → list_any test (filter_map pick xs) ≡ true → list_any test (filter_map pick (x ∷ xs)) ≡ true
picked_later pick test x xs None is h = rw is h
picked_later pick test x xs (Some y) is h = rw is (later_item test (filter_map pick xs) h (test y))

skipped : {A B : Type 0} (pick : A → Option B) (test : B → Bool) (x : A) (xs : List A) → list_any test (filter_map pick xs) ≡ true → list_any test (filter_map pick (x ∷ xs)) ≡ true
skipped pick test x xs h = picked_later pick test x xs (pick x) refl h

picked_here : {A B : Type 0} (pick : A → Option B) (test : B → Bool) (x : A) (xs : List A) (y : B) → pick x ≡ Some y → test y ≡ true → list_any test (filter_map pick (x ∷ xs)) ≡ true
picked_here pick test x xs y is passes = rw (is, passes) refl

abbrev entry : DeviceCapability → ℕ × KnownInterface
entry one = (bit_of one, interface_of one)

abbrev entries : List DeviceCapability → List (ℕ × KnownInterface)
entries ones = map (λ one. (bit_of one, interface_of one)) ones

both : (a b : Bool) → a ≡ true → b ≡ true → (a && b) ≡ true
both a b x y = rw (x, y) refl

-- of these capabilities
pub keyboard_granted : (given wanted : DeviceCapabilities) → has_bit (bits_of given) (bit_of Keyboard) ≡ true → has_bit (bits_of wanted) (bit_of Keyboard) ≡ true → has_keyboard (granted given wanted) ≡ true
keyboard_granted given wanted g w =
    let h : (has_bit (bits_of given) (bit_of Keyboard) && has_bit (bits_of wanted) (bit_of Keyboard)) ≡ true = both _ _ g w in
    let pick : ℕ × KnownInterface → Option KnownInterface = λ c. if has_bit (bits_of given) c.0 && has_bit (bits_of wanted) c.0 then Some c.1 else None in
    skipped pick is_keyboard (entry Pointer) (entries (PointerAbsolute ∷ Keyboard ∷ Touch ∷ Scroll ∷ Button ∷ Text ∷ Gesture ∷ []))
    (skipped pick is_keyboard (entry PointerAbsolute) (entries (Keyboard ∷ Touch ∷ Scroll ∷ Button ∷ Text ∷ Gesture ∷ []))
    (picked_here pick is_keyboard (entry Keyboard) (entries (Touch ∷ Scroll ∷ Button ∷ Text ∷ Gesture ∷ [])) known.Keyboard (rw h refl) refl))

-- of a seat that is held
pub keyboard_by : (o : Option SeatView) (given wanted : DeviceCapabilities) → option_map (λ s. s.capabilities) o ≡ Some given → has_keyboard (granted given wanted) ≡ true → has_keyboard (granted_by o wanted) ≡ true
keyboard_by None given wanted is h = cc
keyboard_by (Some s) given wanted is h =
    let e : s.capabilities ≡ given = cc in
    ap (λ (g : DeviceCapabilities). has_keyboard (granted g wanted)) e ∙ h
