-- The touches of a device after an input, by its kind: they are those after the input.
use Rattle.std.proofs.Common.{◌≡◌, ℕ, false, List, refl, ap, subst, sym, ◌∙◌}
use Rattle.std.specs.Prelude.{unwrap_or, nat_eq}
use Rattle.std.specs.List.{list_any, IsDistinct}
use Rattle.ei_wire.specs.declared.arg.RawFloat.{RawFloat}
use Rattle.ei_input.specs.declared.input_event.InputEvent.{InputEvent}
use Rattle.ei_input.specs.declared.input_event.InputEvent.TheVariants as input_event
use Rattle.ei_session.specs.Touches.{said_by}
use Rattle.ei_standing.proofs.HeardInputs as heard
use Rattle.ei_replay.specs.Steps.{kind_of}
use Rattle.ei_replay.specs.Made.{touched}

same : (x : InputEvent) (ts : List ℕ) → touched (kind_of x) ts ≡ heard.touched x ts
same (input_event.TouchDown t x y) ts = refl
same (input_event.TouchMotion t x y) ts = refl
same (input_event.TouchUp t) ts = refl
same (input_event.TouchCancel t) ts = refl
same (input_event.TextUtf8 letters) ts = refl
same (input_event.PointerMotion a b) ts = refl
same (input_event.PointerMotionAbsolute a b) ts = refl
same (input_event.Button a b) ts = refl
same (input_event.ScrollDelta a b) ts = refl
same (input_event.ScrollStop a b) ts = refl
same (input_event.ScrollCancel a b) ts = refl
same (input_event.ScrollDiscrete a b) ts = refl
same (input_event.KeyboardKey a b) ts = refl
same (input_event.TextKeysym a b) ts = refl
same (input_event.GestureSwipe a b c) ts = refl
same (input_event.GesturePinch a) ts = refl

-- those that are down after an input, by what it says of each
pub touched_as : (x : InputEvent) (ts : List ℕ) (q : ℕ) → IsDistinct nat_eq ts → list_any (nat_eq q) (touched (kind_of x) ts) ≡ unwrap_or (said_by q x) (list_any (nat_eq q) ts)
touched_as x ts q once = ap (list_any (nat_eq q)) (same x ts) ∙ heard.touched_as x ts q once

-- each is listed once, where one that goes down isn't down
pub touched_once : (x : InputEvent) (ts : List ℕ) → IsDistinct nat_eq ts → ((t : ℕ) (a b : RawFloat) → x ≡ input_event.TouchDown t a b → list_any (nat_eq t) ts ≡ false) → IsDistinct nat_eq (touched (kind_of x) ts)
touched_once x ts once new = subst (IsDistinct nat_eq) (sym (same x ts)) (heard.touched_once x ts once new)
