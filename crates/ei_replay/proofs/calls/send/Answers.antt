use Rattle.std.proofs.Common.{◌≡◌, ℕ, ℤ, [], List, ◌∷◌, refl, ap, ◌∙◌, rules, w32, to_z, of_z}
use Rattle.std.proofs.lemmas.Int.{to_z-of_z}
use Rattle.ei_spec.specs.Value.{Word, Long, Signed, Letters}
use Rattle.ei_playing.specs.Playing.{axis}
use Rattle.ei_replay.proofs.ByProxy.{by_proxy, text_by_proxy}
use Rattle.ei_replay.proofs.calls.send.Goals as goal

pub returns-in-Disconnect : goal.returns-in-Disconnect
returns-in-Disconnect c = by_proxy c.args.id _ _ c.in-Disconnect.is _ _ _ _ _ c.proxy-to.ensures refl c.disconnect-sent.ensures.sends

pub returns-in-Bind : goal.returns-in-Bind
returns-in-Bind c = by_proxy c.args.id _ _ c.in-Bind.is _ _ _ _ _ c.proxy-to-in-Bind.ensures (ap (λ (n : ℕ). Long n ∷ []) c.bits.ensures) c.bind-sent.ensures.sends

pub returns-in-RequestDevice : goal.returns-in-RequestDevice
returns-in-RequestDevice c = by_proxy c.args.id _ _ c.in-RequestDevice.is _ _ _ _ _ c.proxy-to-in-RequestDevice.ensures (ap (λ (n : ℕ). Long n ∷ []) c.bits-in-RequestDevice.ensures) c.request_device-sent.ensures.sends

pub returns-in-DeviceClosed : goal.returns-in-DeviceClosed
returns-in-DeviceClosed c = by_proxy c.args.id _ _ c.in-DeviceClosed.is _ _ _ _ _ c.proxy-to-in-DeviceClosed.ensures refl c.release-sent.ensures.sends

pub returns-in-Frame : goal.returns-in-Frame
returns-in-Frame c = by_proxy c.args.id _ _ c.in-Frame.is _ _ _ _ _ c.proxy-to-in-Frame.ensures refl c.frame-sent.ensures.sends

pub returns-in-Ready : goal.returns-in-Ready
returns-in-Ready c = by_proxy c.args.id _ _ c.in-Ready.is _ _ _ _ _ c.proxy-to-in-Ready.ensures refl c.ready-sent.ensures.sends

pub returns-in-DeviceStartEmulating : goal.returns-in-DeviceStartEmulating
returns-in-DeviceStartEmulating c = by_proxy c.args.id _ _ c.in-DeviceStartEmulating.is _ _ _ _ _ c.proxy-to-in-DeviceStartEmulating.ensures refl c.start_emulating-sent.ensures.sends

pub returns-in-DeviceStopEmulating : goal.returns-in-DeviceStopEmulating
returns-in-DeviceStopEmulating c = by_proxy c.args.id _ _ c.in-DeviceStopEmulating.is _ _ _ _ _ c.proxy-to-in-DeviceStopEmulating.ensures refl c.stop_emulating-sent.ensures.sends

pub returns-in-PointerMotion : goal.returns-in-PointerMotion
returns-in-PointerMotion c = by_proxy c.args.id _ _ c.in-PointerMotion.is _ _ _ _ _ c.proxy-to-in-PointerMotion.ensures refl c.motion_relative-sent.ensures.sends

pub returns-in-PointerMotionAbsolute : goal.returns-in-PointerMotionAbsolute
returns-in-PointerMotionAbsolute c = by_proxy c.args.id _ _ c.in-PointerMotionAbsolute.is _ _ _ _ _ c.proxy-to-in-PointerMotionAbsolute.ensures refl c.motion_absolute-sent.ensures.sends

pub returns-in-Button : goal.returns-in-Button
returns-in-Button c = by_proxy c.args.id _ _ c.in-Button.is _ _ _ _ _ c.proxy-to-in-Button.ensures refl c.button-sent.ensures.sends

pub returns-in-ScrollDelta : goal.returns-in-ScrollDelta
returns-in-ScrollDelta c = by_proxy c.args.id _ _ c.in-ScrollDelta.is _ _ _ _ _ c.proxy-to-in-ScrollDelta.ensures refl c.scroll-sent.ensures.sends

pub returns-in-ScrollStop : goal.returns-in-ScrollStop
returns-in-ScrollStop c = by_proxy c.args.id _ _ c.in-ScrollStop.is _ _ _ _ _ c.proxy-to-in-ScrollStop.ensures (ap (λ (n : ℕ). Word n ∷ Word c.axis-in-ScrollStop.result ∷ Word 0 ∷ []) c.axis.ensures ∙ ap (λ (n : ℕ). Word (axis c.in-ScrollStop.r.x) ∷ Word n ∷ Word 0 ∷ []) c.axis-in-ScrollStop.ensures) c.scroll_stop-sent.ensures.sends

pub returns-in-ScrollCancel : goal.returns-in-ScrollCancel
returns-in-ScrollCancel c = by_proxy c.args.id _ _ c.in-ScrollCancel.is _ _ _ _ _ c.proxy-to-in-ScrollCancel.ensures (ap (λ (n : ℕ). Word n ∷ Word c.axis-in-ScrollCancel-2.result ∷ Word 1 ∷ []) c.axis-in-ScrollCancel.ensures ∙ ap (λ (n : ℕ). Word (axis c.in-ScrollCancel.r.x) ∷ Word n ∷ Word 1 ∷ []) c.axis-in-ScrollCancel-2.ensures) c.scroll_stop-sent-in-ScrollCancel.ensures.sends

pub returns-in-ScrollDiscrete : goal.returns-in-ScrollDiscrete
returns-in-ScrollDiscrete c =
    let dx = c.in-ScrollDiscrete.r.discrete_dx in
    let dy = c.in-ScrollDiscrete.r.discrete_dy in
    let same_x : to_z w32 (of_z w32 dx) ≡ dx = to_z-of_z w32 dx (search rules) in
    let same_y : to_z w32 (of_z w32 dy) ≡ dy = to_z-of_z w32 dy (search rules) in
    by_proxy c.args.id _ _ c.in-ScrollDiscrete.is _ _ _ _ _ c.proxy-to-in-ScrollDiscrete.ensures
    (ap (λ (z : ℤ). Signed z ∷ Signed (to_z w32 (of_z w32 dy)) ∷ []) same_x ∙ ap (λ (z : ℤ). Signed dx ∷ Signed z ∷ []) same_y) c.scroll_discrete-sent.ensures.sends

pub returns-in-KeyboardKey : goal.returns-in-KeyboardKey
returns-in-KeyboardKey c = by_proxy c.args.id _ _ c.in-KeyboardKey.is _ _ _ _ _ c.proxy-to-in-KeyboardKey.ensures refl c.key-sent.ensures.sends

pub returns-in-TouchDown : goal.returns-in-TouchDown
returns-in-TouchDown c = by_proxy c.args.id _ _ c.in-TouchDown.is _ _ _ _ _ c.proxy-to-in-TouchDown.ensures refl c.down-sent.ensures.sends

pub returns-in-TouchMotion : goal.returns-in-TouchMotion
returns-in-TouchMotion c = by_proxy c.args.id _ _ c.in-TouchMotion.is _ _ _ _ _ c.proxy-to-in-TouchMotion.ensures refl c.motion-sent.ensures.sends

pub returns-in-TouchUp : goal.returns-in-TouchUp
returns-in-TouchUp c = by_proxy c.args.id _ _ c.in-TouchUp.is _ _ _ _ _ c.proxy-to-in-TouchUp.ensures refl c.up-sent.ensures.sends

pub returns-in-TouchCancel : goal.returns-in-TouchCancel
returns-in-TouchCancel c = by_proxy c.args.id _ _ c.in-TouchCancel.is _ _ _ _ _ c.proxy-to-in-TouchCancel.ensures refl c.cancel-sent.ensures.sends

pub returns-in-TextKeysym : goal.returns-in-TextKeysym
returns-in-TextKeysym c = by_proxy c.args.id _ _ c.in-TextKeysym.is _ _ _ _ _ c.proxy-to-in-TextKeysym.ensures refl c.keysym-sent.ensures.sends

pub returns-in-TextUtf8 : goal.returns-in-TextUtf8
returns-in-TextUtf8 c = text_by_proxy c.args.id _ _ c.in-TextUtf8.is _ _ _ _ _ c.proxy-to-in-TextUtf8.ensures (ap (λ (l : List ℕ). Letters l ∷ []) c.as_str.ensures) c.utf8-sent.ensures.sends

pub returns-in-GestureSwipe : goal.returns-in-GestureSwipe
returns-in-GestureSwipe c = by_proxy c.args.id _ _ c.in-GestureSwipe.is _ _ _ _ _ c.proxy-to-in-GestureSwipe.ensures refl c.swipe-sent.ensures.sends

pub returns-in-GesturePinch : goal.returns-in-GesturePinch
returns-in-GesturePinch c = by_proxy c.args.id _ _ c.in-GesturePinch.is _ _ _ _ _ c.proxy-to-in-GesturePinch.ensures refl c.pinch-sent.ensures.sends
