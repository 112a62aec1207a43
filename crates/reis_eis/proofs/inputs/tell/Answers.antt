use Rattle.std.proofs.Common.{◌≡◌, ℕ, ℤ, List, [], ◌∷◌, refl, ap, ◌∙◌, rules, w32, to_z, of_z}
use Rattle.std.specs.Prelude.{find}
use Rattle.std.proofs.lemmas.Int.{to_z-of_z}
use Rattle.ei_spec.specs.Message.{message, size}
use Rattle.ei_spec.specs.Value.{Word, Signed, Letters}
use Rattle.ei_request.specs.Held.{is_of_key}
use Rattle.reis_eis.specs.Inputs.{axis}
use Rattle.reis_eis.proofs.TellingInputs.{by_interface, text_by_interface}
use Rattle.reis_eis.proofs.inputs.tell.Goals as goal

pub returns-in-PointerMotion : goal.returns-in-PointerMotion
returns-in-PointerMotion c =
    by_interface (find (is_of_key c.args.device.now) c.args.handle.now.devices) c.args.input.now _ c.in-PointerMotion.is c.interface-to.result c.interface-to.ensures c.args.handle.now _ _ refl (λ b. refl) refl _ refl c.context_mut.result.now c.context_mut.ensures.value c.motion_relative-told.ensures.sends

pub returns-in-PointerMotionAbsolute : goal.returns-in-PointerMotionAbsolute
returns-in-PointerMotionAbsolute c =
    by_interface (find (is_of_key c.args.device.now) c.args.handle.now.devices) c.args.input.now _ c.in-PointerMotionAbsolute.is c.interface-to-in-PointerMotionAbsolute.result c.interface-to-in-PointerMotionAbsolute.ensures c.args.handle.now _ _ refl (λ b. refl) refl _ refl c.context_mut-in-PointerMotionAbsolute.result.now c.context_mut-in-PointerMotionAbsolute.ensures.value c.motion_absolute-told.ensures.sends

pub returns-in-Button : goal.returns-in-Button
returns-in-Button c =
    by_interface (find (is_of_key c.args.device.now) c.args.handle.now.devices) c.args.input.now _ c.in-Button.is c.interface-to-in-Button.result c.interface-to-in-Button.ensures c.args.handle.now _ _ refl (λ b. refl) refl _ refl c.context_mut-in-Button.result.now c.context_mut-in-Button.ensures.value c.button-told.ensures.sends

pub returns-in-ScrollDelta : goal.returns-in-ScrollDelta
returns-in-ScrollDelta c =
    by_interface (find (is_of_key c.args.device.now) c.args.handle.now.devices) c.args.input.now _ c.in-ScrollDelta.is c.interface-to-in-ScrollDelta.result c.interface-to-in-ScrollDelta.ensures c.args.handle.now _ _ refl (λ b. refl) refl _ refl c.context_mut-in-ScrollDelta.result.now c.context_mut-in-ScrollDelta.ensures.value c.scroll-told.ensures.sends

pub returns-in-ScrollStop : goal.returns-in-ScrollStop
returns-in-ScrollStop c =
    by_interface (find (is_of_key c.args.device.now) c.args.handle.now.devices) c.args.input.now _ c.in-ScrollStop.is c.interface-to-in-ScrollStop.result c.interface-to-in-ScrollStop.ensures c.args.handle.now _ _ (ap (λ (n : ℕ). Word n ∷ Word c.axis-in-ScrollStop.result ∷ Word 0 ∷ []) c.axis.ensures ∙ ap (λ (n : ℕ). Word (axis c.in-ScrollStop.x) ∷ Word n ∷ Word 0 ∷ []) c.axis-in-ScrollStop.ensures) (λ b. refl) refl _ refl c.context_mut-in-ScrollStop.result.now c.context_mut-in-ScrollStop.ensures.value c.scroll_stop-told.ensures.sends

pub returns-in-ScrollCancel : goal.returns-in-ScrollCancel
returns-in-ScrollCancel c =
    by_interface (find (is_of_key c.args.device.now) c.args.handle.now.devices) c.args.input.now _ c.in-ScrollCancel.is c.interface-to-in-ScrollCancel.result c.interface-to-in-ScrollCancel.ensures c.args.handle.now _ _ (ap (λ (n : ℕ). Word n ∷ Word c.axis-in-ScrollCancel-2.result ∷ Word 1 ∷ []) c.axis-in-ScrollCancel.ensures ∙ ap (λ (n : ℕ). Word (axis c.in-ScrollCancel.x) ∷ Word n ∷ Word 1 ∷ []) c.axis-in-ScrollCancel-2.ensures) (λ b. refl) refl _ refl c.context_mut-in-ScrollCancel.result.now c.context_mut-in-ScrollCancel.ensures.value c.scroll_stop-told-in-ScrollCancel.ensures.sends

pub returns-in-ScrollDiscrete : goal.returns-in-ScrollDiscrete
returns-in-ScrollDiscrete c =
    let dx = c.in-ScrollDiscrete.discrete_dx in
    let dy = c.in-ScrollDiscrete.discrete_dy in
    let same_x : to_z w32 (of_z w32 dx) ≡ dx = to_z-of_z w32 dx (search rules) in
    let same_y : to_z w32 (of_z w32 dy) ≡ dy = to_z-of_z w32 dy (search rules) in
    by_interface (find (is_of_key c.args.device.now) c.args.handle.now.devices) c.args.input.now _ c.in-ScrollDiscrete.is c.interface-to-in-ScrollDiscrete.result c.interface-to-in-ScrollDiscrete.ensures c.args.handle.now _ _ (ap (λ (z : ℤ). Signed z ∷ Signed (to_z w32 (of_z w32 dy)) ∷ []) same_x ∙ ap (λ (z : ℤ). Signed dx ∷ Signed z ∷ []) same_y) (λ b. refl) refl _ refl c.context_mut-in-ScrollDiscrete.result.now c.context_mut-in-ScrollDiscrete.ensures.value c.scroll_discrete-told.ensures.sends

pub returns-in-KeyboardKey : goal.returns-in-KeyboardKey
returns-in-KeyboardKey c =
    by_interface (find (is_of_key c.args.device.now) c.args.handle.now.devices) c.args.input.now _ c.in-KeyboardKey.is c.interface-to-in-KeyboardKey.result c.interface-to-in-KeyboardKey.ensures c.args.handle.now _ _ refl (λ b. refl) refl _ refl c.context_mut-in-KeyboardKey.result.now c.context_mut-in-KeyboardKey.ensures.value c.key-told.ensures.sends

pub returns-in-TouchDown : goal.returns-in-TouchDown
returns-in-TouchDown c =
    by_interface (find (is_of_key c.args.device.now) c.args.handle.now.devices) c.args.input.now _ c.in-TouchDown.is c.interface-to-in-TouchDown.result c.interface-to-in-TouchDown.ensures c.args.handle.now _ _ refl (λ b. refl) refl _ refl c.context_mut-in-TouchDown.result.now c.context_mut-in-TouchDown.ensures.value c.down-told.ensures.sends

pub returns-in-TouchMotion : goal.returns-in-TouchMotion
returns-in-TouchMotion c =
    by_interface (find (is_of_key c.args.device.now) c.args.handle.now.devices) c.args.input.now _ c.in-TouchMotion.is c.interface-to-in-TouchMotion.result c.interface-to-in-TouchMotion.ensures c.args.handle.now _ _ refl (λ b. refl) refl _ refl c.context_mut-in-TouchMotion.result.now c.context_mut-in-TouchMotion.ensures.value c.motion-told.ensures.sends

pub returns-in-TouchUp : goal.returns-in-TouchUp
returns-in-TouchUp c =
    by_interface (find (is_of_key c.args.device.now) c.args.handle.now.devices) c.args.input.now _ c.in-TouchUp.is c.interface-to-in-TouchUp.result c.interface-to-in-TouchUp.ensures c.args.handle.now _ _ refl (λ b. refl) refl _ refl c.context_mut-in-TouchUp.result.now c.context_mut-in-TouchUp.ensures.value c.up-told.ensures.sends

pub returns-in-TouchCancel : goal.returns-in-TouchCancel
returns-in-TouchCancel c =
    by_interface (find (is_of_key c.args.device.now) c.args.handle.now.devices) c.args.input.now _ c.in-TouchCancel.is c.interface-to-in-TouchCancel.result c.interface-to-in-TouchCancel.ensures c.args.handle.now _ _ refl (λ b. refl) refl _ refl c.context_mut-in-TouchCancel.result.now c.context_mut-in-TouchCancel.ensures.value c.cancel-told.ensures.sends

pub returns-in-TextKeysym : goal.returns-in-TextKeysym
returns-in-TextKeysym c =
    by_interface (find (is_of_key c.args.device.now) c.args.handle.now.devices) c.args.input.now _ c.in-TextKeysym.is c.interface-to-in-TextKeysym.result c.interface-to-in-TextKeysym.ensures c.args.handle.now _ _ refl (λ b. refl) refl _ refl c.context_mut-in-TextKeysym.result.now c.context_mut-in-TextKeysym.ensures.value c.keysym-told.ensures.sends

pub returns-in-TextUtf8 : goal.returns-in-TextUtf8
returns-in-TextUtf8 c =
    text_by_interface (find (is_of_key c.args.device.now) c.args.handle.now.devices) c.args.input.now _ c.in-TextUtf8.is c.interface-to-in-TextUtf8.result c.interface-to-in-TextUtf8.ensures c.args.handle.now _ _ (ap (λ (l : List ℕ). Letters l ∷ []) c.as_str.ensures) (λ b. refl) refl _ (ap (λ (l : List ℕ). size (message 0 2 (Letters l ∷ []))) c.as_str.ensures) c.context_mut-in-TextUtf8.result.now c.context_mut-in-TextUtf8.ensures.value c.utf8-told.ensures.sends

pub returns-in-GestureSwipe : goal.returns-in-GestureSwipe
returns-in-GestureSwipe c =
    by_interface (find (is_of_key c.args.device.now) c.args.handle.now.devices) c.args.input.now _ c.in-GestureSwipe.is c.interface-to-in-GestureSwipe.result c.interface-to-in-GestureSwipe.ensures c.args.handle.now _ _ refl (λ b. refl) refl _ refl c.context_mut-in-GestureSwipe.result.now c.context_mut-in-GestureSwipe.ensures.value c.swipe-told.ensures.sends

pub returns-in-GesturePinch : goal.returns-in-GesturePinch
returns-in-GesturePinch c =
    by_interface (find (is_of_key c.args.device.now) c.args.handle.now.devices) c.args.input.now _ c.in-GesturePinch.is c.interface-to-in-GesturePinch.result c.interface-to-in-GesturePinch.ensures c.args.handle.now _ _ refl (λ b. refl) refl _ refl c.context_mut-in-GesturePinch.result.now c.context_mut-in-GesturePinch.ensures.value c.pinch-told.ensures.sends
