use Rattle.std.proofs.Common.{◌≡◌, ℕ, Bool, true, false, cond, List, [], ◌∷◌, ◌++◌, Result, Ok, Err, refl, nat_eq}
use Rattle.std.specs.Prelude.{OnOk, if◌then◌else◌}
use Rattle.std.specs.List.{list_any}
use Rattle.ei_request.specs.declared.input_error.InputError.{InputError}
use Rattle.ei_input.specs.declared.input_event.InputEvent.{InputEvent}
use Rattle.ei_input.specs.declared.input_event.InputEvent.TheVariants as input
use Rattle.ei_request.specs.Held.{DeviceView, has_touch, with_input, without_touch, without_first}
use Rattle.ei_request.proofs.FirstOnes.{without_any}
use Rattle.ei_request.proofs.held.HeldDevice.take.Goals as goal

-- a touch that ends, where it is down or not
lifted_at : (touch : ℕ) (i : InputEvent) (d : DeviceView) (touches : List ℕ) (waiting : List InputEvent) (down : Bool) → list_any (nat_eq touch) d.touches ≡ down →
    touches ≡ without_first (nat_eq touch) d.touches → waiting ≡ cond down (d.waiting ++ i ∷ []) d.waiting →
    record d { waiting = waiting; touches = touches } ≡ cond down (with_input i (without_touch touch d)) d
lifted_at touch i d touches waiting true e t w = rw (t, w) refl
lifted_at touch i d touches waiting false e t w = rw (t, w, without_any (nat_eq touch) d.touches e) refl

lifted : (result : Result (Unit {0}) InputError) (touch : ℕ) (i : InputEvent) (d : DeviceView) (touches : List ℕ) (waiting : List InputEvent) →
    OnOk result (touches ≡ without_first (nat_eq touch) d.touches) →
    OnOk result (waiting ≡ (if list_any (nat_eq touch) d.touches then d.waiting ++ i ∷ [] else d.waiting)) →
    OnOk result (record d { waiting = waiting; touches = touches } ≡ (if has_touch touch d then with_input i (without_touch touch d) else d))
lifted (Ok x) touch i d touches waiting t w = lifted_at touch i d touches waiting (list_any (nat_eq touch) d.touches) refl t w
lifted (Err x) touch i d touches waiting t w = tt

pub returns-in-TouchUp-clause-ok : goal.returns-in-TouchUp-clause-ok
returns-in-TouchUp-clause-ok c =
    let old : DeviceView = record { device = c.self.inside.device; name = c.self.inside.name; interfaces = c.self.inside.interfaces.items; waiting = c.self.inside.waiting.items; touches = c.self.inside.touches.items } in
    let touch = c.in-TouchUp.touch_id in
    rw (c.in-TouchUp.is, ← c.self.view_is) (lifted c.lift.result touch (input.TouchUp touch) old c.lift.new.touches.items c.lift.new.waiting.items c.lift.ensures.ok c.lift.ensures.waits)

pub returns-else-version-lt2-clause-ok : goal.returns-else-version-lt2-clause-ok
returns-else-version-lt2-clause-ok c =
    let old : DeviceView = record { device = c.self.inside.device; name = c.self.inside.name; interfaces = c.self.inside.interfaces.items; waiting = c.self.inside.waiting.items; touches = c.self.inside.touches.items } in
    let touch = c.in-TouchCancel.touch_id in
    rw (c.in-TouchCancel.is, ← c.self.view_is) (lifted c.lift-in-TouchCancel.result touch (input.TouchCancel touch) old c.lift-in-TouchCancel.new.touches.items c.lift-in-TouchCancel.new.waiting.items c.lift-in-TouchCancel.ensures.ok c.lift-in-TouchCancel.ensures.waits)

pub returns-in-TouchDown-clause-why : goal.returns-in-TouchDown-clause-why
returns-in-TouchDown-clause-why c = rw (c.in-TouchDown.is, ← c.self.view_is) (c.press.ensures.why c.args.version)
