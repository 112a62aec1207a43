-- The inputs that wait, and the touches that are down, after a message of each kind.
use Rattle.std.proofs.Common.{◌≡◌, ℕ, Bool, true, false, cond, not, ◌&&◌, ◌||◌, eqb, List, ◌∷◌, Option, Some, None, refl, ap, ◌∙◌}
use Rattle.std.specs.Prelude.{unwrap_or}
use Rattle.ei_spec.specs.Message.{Raw}
use Rattle.ei_spec.specs.History.{each}
use Rattle.ei_spec.specs.Groups.{group}
use Rattle.ei_spec.proofs.HistoryLaws.{each_more}
use Rattle.ei_spec.proofs.GroupsLaws.{group_more, waits}
use Rattle.ei_session.specs.Setup.{Setup}
use Rattle.ei_session.specs.Inputs.{DeviceInput}
use Rattle.ei_wire.specs.declared.arg.RawFloat.{RawFloat}
use Rattle.ei_input.specs.declared.input_event.InputEvent.TheVariants as input_event
use Rattle.ei_session.specs.Touches.{input, said_of, touches, is_down}
use Rattle.ei_session.specs.Requests.{Asking, item, slot}
use Rattle.ei_session.proofs.SerialLaws.{down_more}

-- by the item of the message
pub group_by : (setup : Setup) (before : List Raw) (m : Raw) (device : ℕ) (o : Option Asking) → item before m ≡ o → group device (each (slot setup) (m ∷ before)) ≡ waits device (group device (each (slot setup) before)) o
unfolding slot
group_by setup before m device o e =
    ap (group device) (each_more (slot setup) before m) ∙ group_more device (each (slot setup) before) (slot setup before m) ∙ ap (waits device (group device (each (slot setup) before))) e

touch_says : (before : List Raw) (m : Raw) (o : Option DeviceInput) (device touch : ℕ) → input before m ≡ o → is_down (m ∷ before) device touch ≡ unwrap_or (said_of device touch o) (is_down before device touch)
unfolding touches
touch_says before m o device touch e = down_more before m device touch ∙ ap (λ (x : Option DeviceInput). unwrap_or (said_of device touch x) (is_down before device touch)) e

puts_down : (a b old : Bool) → unwrap_or (cond a (cond b (Some true) None) None) old ≡ ((a && b) || old)
puts_down true true old = refl
puts_down true false old = refl
puts_down false b old = refl

ends : (a b old : Bool) → unwrap_or (cond a (cond b (Some false) None) None) old ≡ (not (a && b) && old)
ends true true old = refl
ends true false old = refl
ends false b old = refl

pub touch_down : (before : List Raw) (m : Raw) (d t : ℕ) (a b : RawFloat) → input before m ≡ Some (record { device = d; input = input_event.TouchDown t a b }) → (device touch : ℕ) → is_down (m ∷ before) device touch ≡ ((eqb d device && eqb t touch) || is_down before device touch)
touch_down before m d t a b e device touch = touch_says before m _ device touch e ∙ puts_down (eqb d device) (eqb t touch) (is_down before device touch)

pub touch_up : (before : List Raw) (m : Raw) (d t : ℕ) → input before m ≡ Some (record { device = d; input = input_event.TouchUp t }) → (device touch : ℕ) → is_down (m ∷ before) device touch ≡ (not (eqb d device && eqb t touch) && is_down before device touch)
touch_up before m d t e device touch = touch_says before m _ device touch e ∙ ends (eqb d device) (eqb t touch) (is_down before device touch)

pub touch_cancel : (before : List Raw) (m : Raw) (d t : ℕ) → input before m ≡ Some (record { device = d; input = input_event.TouchCancel t }) → (device touch : ℕ) → is_down (m ∷ before) device touch ≡ (not (eqb d device && eqb t touch) && is_down before device touch)
touch_cancel before m d t e device touch = touch_says before m _ device touch e ∙ ends (eqb d device) (eqb t touch) (is_down before device touch)

pub touch_none : (before : List Raw) (m : Raw) → input before m ≡ None → (device touch : ℕ) → is_down (m ∷ before) device touch ≡ is_down before device touch
touch_none before m e device touch = touch_says before m None device touch e
