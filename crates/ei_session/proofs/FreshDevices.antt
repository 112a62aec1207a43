-- Nothing waits on an id that isn't given yet, and no touch is down there.
use Rattle.std.proofs.Common.{◌≡◌, ◌≢◌, ℕ, ◌<◌, ◌≤◌, Bool, true, false, cond, eqb, List, [], ◌∷◌, Option, Some, None, refl, sym, ap, ◌∙◌, arith}
use Rattle.std.specs.Prelude.{unwrap_or}
use Rattle.std.proofs.lemmas.Bool.Decides.{nat_tests}
use Rattle.ei_spec.specs.Message.{Raw}
use Rattle.ei_spec.specs.History.{each, last_said, since}
use Rattle.ei_spec.specs.Groups.{Input as Waiting, Frame, Other, Free, group}
use Rattle.ei_spec.proofs.GroupsLaws.{waits}
use Rattle.ei_session.specs.Setup.{Setup}
use Rattle.ei_input.specs.declared.input_event.InputEvent.{InputEvent}
use Rattle.ei_session.specs.Inputs.{DeviceInput}
use Rattle.ei_session.specs.Meaning.{Meaning, Inputs, meaning}
use Rattle.ei_session.specs.Devices.{next_id}
use Rattle.ei_session.specs.Objects.{Entry, object}
use Rattle.ei_session.specs.Touches.{of_device, input, said_of, touches, is_down}
use Rattle.ei_session.specs.Requests.{Asking, is_heard, item, slot}
use Rattle.ei_session.specs.ByMeaning.{input_in, item_for}
use Rattle.ei_session.proofs.Choices.{none_some}
use Rattle.ei_session.proofs.ItemLaws.{item_unknown}
use Rattle.ei_session.proofs.ItemMeans.{item_asked, input_by}
use Rattle.ei_session.proofs.ObjectShape.{object_below, object_owner, next_id_more}
use Rattle.ei_session.proofs.WaitingLaws.{group_by}
use Rattle.ei_session.proofs.SerialLaws.{down_more}

-- the device on which an item waits
abbrev pub waits_on : Option Asking → Option ℕ
waits_on (Some (Waiting d x)) = Some d
waits_on o = None

-- ---- inputs are of devices that are there

owner_below : (past : List Raw) (id : ℕ) (e : Entry) (d : ℕ) → object past id ≡ Some e → e.device ≡ Some d → d < next_id past
owner_below past id e d k p = let o = object_owner past id e d k p in object_below past d o.entry d o.is o.own

heard : (d x : ℕ) (b : Bool) (i : InputEvent) → waits_on (cond b (Some (Waiting x i)) None) ≡ Some d → Some x ≡ Some d
heard d x true i h = h
heard d x false i h = absurd (none_some d h)

waiting_device : (past : List Raw) (id : ℕ) (device : Option ℕ) (o : Option Meaning) (d : ℕ) → waits_on (item_for past id device o) ≡ Some d → device ≡ Some d
waiting_device past id None (Some (Inputs i)) d h = absurd (none_some d h)
waiting_device past id (Some x) (Some (Inputs i)) d h = heard d x (is_heard past x i) i h
waiting_device past id None o d h = absurd (none_some d h)
waiting_device past id (Some x) o d h = absurd (none_some d h)

waits_at : (past : List Raw) (m : Raw) (d : ℕ) (o : Option Entry) → object past m.id ≡ o → waits_on (item past m) ≡ Some d → d < next_id past
waits_at past m d None k h = absurd (none_some d (sym (ap waits_on (item_unknown past m k)) ∙ h))
waits_at past m d (Some e) k h = owner_below past m.id e d k (waiting_device past m.id e.device (meaning e.interface m) d (sym (ap waits_on (item_asked past m e k)) ∙ h))

waits_below : (past : List Raw) (m : Raw) (d : ℕ) → waits_on (item past m) ≡ Some d → d < next_id past
waits_below past m d h = waits_at past m d (object past m.id) refl h

device_of : (device : Option ℕ) (o : Option InputEvent) (i : DeviceInput) → of_device device o ≡ Some i → device ≡ Some i.device
device_of None o i h = absurd (none_some i h)
device_of (Some d) None i h = absurd (none_some i h)
device_of (Some d) (Some x) i h = cc

input_at : (past : List Raw) (m : Raw) (i : DeviceInput) (o : Option Entry) → object past m.id ≡ o → input past m ≡ Some i → i.device < next_id past
unfolding input
input_at past m i None k h = absurd (none_some i (sym (rw (k, input) refl) ∙ h))
input_at past m i (Some e) k h = owner_below past m.id e i.device k (device_of e.device (input_in (meaning e.interface m)) i (sym (input_by past m e k) ∙ h))

-- ---- one message after another

nothing : (b : Bool) → cond {A = List InputEvent} b [] [] ≡ []
nothing true = refl
nothing false = refl

fresh_step : (d id : ℕ) (o : Option Asking) → ((x : ℕ) → waits_on o ≡ Some x → x ≢ id) → waits id [] o ≡ []
fresh_step d id None h = refl
fresh_step d id (Some (Waiting x i)) h = let other : eqb x id ≡ false = let far = h x refl in grind (arith, nat_tests, far) in rw other refl
fresh_step d id (Some (Frame x s t)) h = nothing (eqb x id)
fresh_step d id (Some (Other x y)) h = nothing (eqb x id)
fresh_step d id (Some (Free y)) h = refl

pub fresh_group : (setup : Setup) (past : List Raw) (id : ℕ) → next_id past ≤ id → group id (each (slot setup) past) ≡ []
unfolding group each since
fresh_group setup [] id le = refl
fresh_group setup (m ∷ past) id le =
    let old : next_id past ≤ id = omega (arith, next_id_more past m) in
    group_by setup past m id (item past m) refl ∙ ap (λ g. waits id g (item past m)) (fresh_group setup past id old)
    ∙ fresh_step id id (item past m) (λ x h same. omega (arith, waits_below past m x h, same))

not_down : (past : List Raw) (m : Raw) (id t : ℕ) (o : Option DeviceInput) → input past m ≡ o → next_id past ≤ id → said_of id t o ≡ None
not_down past m id t None k le = refl
not_down past m id t (Some i) k le =
    let below = input_at past m i (object past m.id) refl k in
    let other : eqb i.device id ≡ false = grind (arith, nat_tests, below) in rw other refl

pub fresh_down : (past : List Raw) (id t : ℕ) → next_id past ≤ id → is_down past id t ≡ false
unfolding is_down last_said touches
fresh_down [] id t le = refl
fresh_down (m ∷ past) id t le =
    let old : next_id past ≤ id = omega (arith, next_id_more past m) in
    down_more past m id t ∙ ap (λ x. unwrap_or x (is_down past id t)) (not_down past m id t (input past m) refl old) ∙ fresh_down past id t old
