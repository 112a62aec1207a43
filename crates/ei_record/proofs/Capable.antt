-- An input is of the capability whose interface it came through.
use Rattle.std.proofs.Common.{◌≡◌, ℕ, Bool, true, false, not, eqb, List, [], ◌∷◌, Option, Some, None, refl, ap, sym, ◌∙◌}
use Rattle.std.specs.Prelude.{ℤ, codes}
use Rattle.ei_spec.specs.declared.interface.KnownInterface.{KnownInterface}
use Rattle.ei_spec.specs.declared.interface.KnownInterface.TheVariants as known
use Rattle.ei_spec.specs.Value.{Value, Word, Signed, Letters}
use Rattle.ei_spec.specs.FromValues.{first, one, two, three, text}
use Rattle.ei_spec.specs.Message.{Raw}
use Rattle.ei_types.specs.Capability.{bit_of, has_bit, capability_of}
use Rattle.ei_types.specs.declared.capability.DeviceCapability.{DeviceCapability}
use Rattle.ei_input.specs.declared.input_event.InputEvent.{InputEvent}
use Rattle.ei_input.specs.declared.input_event.InputEvent.TheVariants as input_event
use Rattle.ei_input.specs.Inputs.{float, floats, touching, scroll_end, discrete, button_of, key_of, input_by}
use Rattle.ei_session.specs.Asked.{asked}
use Rattle.ei_session.specs.Inputs.{input_to}
use Rattle.ei_session.proofs.Choices.{none_some, some_is}
use Rattle.ei_record.specs.Replayable.{capability_for, lacks}
use Rattle.ei_record.proofs.Owned.{serves}

-- the input, if it is one, is of this capability
abbrev IsOf : Option DeviceCapability → Option InputEvent → Type 0
IsOf c None = Unit {0}
IsOf c (Some x) = c ≡ Some (capability_for x)

module _ (c : Option DeviceCapability) where
  one_of : (make : ℕ → InputEvent) → ((a : ℕ) → IsOf c (Some (make a))) → (o : Option (List Value)) → IsOf c (one make o)
  one_of make h (Some (Word a ∷ [])) = h a
  one_of make h o = tt

  two_of : (make : ℕ → ℕ → InputEvent) → ((a b : ℕ) → IsOf c (Some (make a b))) → (o : Option (List Value)) → IsOf c (two make o)
  two_of make h (Some (Word a ∷ Word b ∷ [])) = h a b
  two_of make h o = tt

  three_of : (make : ℕ → ℕ → ℕ → InputEvent) → ((a b d : ℕ) → IsOf c (Some (make a b d))) → (o : Option (List Value)) → IsOf c (three make o)
  three_of make h (Some (Word a ∷ Word b ∷ Word d ∷ [])) = h a b d
  three_of make h o = tt

  text_of : (make : List ℕ → InputEvent) → ((t : List ℕ) → IsOf c (Some (make t))) → (o : Option (List Value)) → IsOf c (text make o)
  text_of make h (Some (Letters t ∷ [])) = h t
  text_of make h o = tt

  discrete_of : ((x y : ℤ) → IsOf c (Some (input_event.ScrollDiscrete x y))) → (o : Option (List Value)) → IsOf c (discrete o)
  discrete_of h (Some (Signed x ∷ Signed y ∷ [])) = h x y
  discrete_of h o = tt

  first_of : (o : Option InputEvent) (os : List (Option InputEvent)) → IsOf c o → IsOf c (first os) → IsOf c (first (o ∷ os))
  first_of (Some x) os h rest = h
  first_of None os h rest = rest

  stop_of : ((x y : Bool) → IsOf c (Some (input_event.ScrollStop x y))) → ((x y : Bool) → IsOf c (Some (input_event.ScrollCancel x y))) → (x y z : ℕ) → IsOf c (Some (scroll_end x y z))
  stop_of h g x y z = by (eqb z 0) refl
    where
      by : (b : Bool) → eqb z 0 ≡ b → IsOf c (Some (scroll_end x y z))
      by true e = rw e (h (not (eqb x 0)) (not (eqb y 0)))
      by false e = rw e (g (not (eqb x 0)) (not (eqb y 0)))

by_name : (k : KnownInterface) (called : List ℕ → Option (List Value)) → IsOf (capability_of k) (input_by k called)
by_name known.Pointer called = two_of (capability_of known.Pointer) (floats input_event.PointerMotion) (λ a b. refl) (called (codes "motion_relative"))
by_name known.PointerAbsolute called = two_of (capability_of known.PointerAbsolute) (floats input_event.PointerMotionAbsolute) (λ a b. refl) (called (codes "motion_absolute"))
by_name known.Scroll called =
    let c = capability_of known.Scroll in
    first_of c _ _ (two_of c (floats input_event.ScrollDelta) (λ a b. refl) (called (codes "scroll"))) (first_of c _ _ (discrete_of c (λ a b. refl) (called (codes "scroll_discrete"))) (first_of c _ _ (three_of c scroll_end (λ x y z. stop_of c (λ p q. refl) (λ p q. refl) x y z) (called (codes "scroll_stop"))) tt))
by_name known.Button called = two_of (capability_of known.Button) (λ button number. input_event.Button button (button_of number)) (λ a b. refl) (called (codes "button"))
by_name known.Keyboard called = two_of (capability_of known.Keyboard) (λ key number. input_event.KeyboardKey key (key_of number)) (λ a b. refl) (called (codes "key"))
by_name known.Touchscreen called =
    let c = capability_of known.Touchscreen in
    first_of c _ _ (three_of c (touching input_event.TouchDown) (λ x y z. refl) (called (codes "down"))) (first_of c _ _ (three_of c (touching input_event.TouchMotion) (λ x y z. refl) (called (codes "motion"))) (first_of c _ _ (one_of c input_event.TouchUp (λ x. refl) (called (codes "up"))) (first_of c _ _ (one_of c input_event.TouchCancel (λ x. refl) (called (codes "cancel"))) tt)))
by_name known.Text called =
    let c = capability_of known.Text in
    first_of c _ _ (two_of c (λ keysym number. input_event.TextKeysym keysym (key_of number)) (λ x y. refl) (called (codes "keysym"))) (first_of c _ _ (text_of c input_event.TextUtf8 (λ x. refl) (called (codes "utf8"))) tt)
by_name known.Gesture called =
    let c = capability_of known.Gesture in
    first_of c _ _ (three_of c (touching input_event.GestureSwipe) (λ x y z. refl) (called (codes "swipe"))) (first_of c _ _ (one_of c (λ scale. input_event.GesturePinch (float scale)) (λ x. refl) (called (codes "pinch"))) tt)
by_name k called = tt

kind_by : (c : Option DeviceCapability) (o : Option InputEvent) (x : InputEvent) → IsOf c o → o ≡ Some x → c ≡ Some (capability_for x)
kind_by c None x h e = absurd (none_some x e)
kind_by c (Some y) x h e = h ∙ ap (λ (z : InputEvent). Some (capability_for z)) (some_is y x e)

pub input_kind : (k : KnownInterface) (m : Raw) (x : InputEvent) → input_to k m ≡ Some x → capability_of k ≡ Some (capability_for x)
input_kind k m x e = kind_by (capability_of k) (input_to k m) x (by_name k (λ name. asked k name m)) e

-- a mask that serves the interface has what an input through it needs
pub served_input : (k : KnownInterface) (m : Raw) (mask : ℕ) (x : InputEvent) → input_to k m ≡ Some x → serves mask k ≡ true → lacks (Some mask) x ≡ false
served_input k m mask x e s =
    let kind = input_kind k m x e in
    let here : has_bit mask (bit_of (capability_for x)) ≡ true = sym (rw kind refl) ∙ s in
    ap not here
