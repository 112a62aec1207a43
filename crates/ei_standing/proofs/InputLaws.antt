-- An input waits on its device, where it is heard, and a touch goes down or ends.
use Rattle.std.proofs.Common.{◌≡◌, ℕ, Bool, true, false, cond, eqb, List, [], ◌∷◌, ◌++◌, length, Option, Some, None, refl, sym, ap, ◌∙◌, subst}
use Rattle.std.specs.Prelude.{map, find, nat_eq, unwrap_or}
use Rattle.std.proofs.lemmas.Bool.{eqb-true}
use Rattle.std.proofs.lemmas.List.{append-nil}
use Rattle.ei_spec.specs.Message.{Raw}
use Rattle.ei_spec.specs.History.{each}
use Rattle.ei_spec.specs.Groups.{Input as Waits, group, frames_made, gives}
use Rattle.ei_session.specs.Setup.{Setup}
use Rattle.ei_input.specs.declared.input_event.InputEvent.TheVariants.{TouchDown}
use Rattle.ei_session.specs.Inputs.{DeviceInput}
use Rattle.ei_session.specs.Meaning.{Inputs, meaning}
use Rattle.ei_session.specs.ByMeaning.{input_refusal}
use Rattle.ei_session.specs.Objects.{Entry, object}
use Rattle.ei_session.specs.Touches.{input, said_by, said_of, touches, is_down}
use Rattle.ei_session.specs.Refusals.{Refusal, refusal}
use Rattle.ei_session.specs.Requests.{Request, Asking, is_heard, item, slot}
use Rattle.ei_session.specs.Events.{reply}
use Rattle.ei_session.specs.Kept.{Plainly}
use Rattle.ei_session.proofs.KeptByRequests.{plainly_device}
use Rattle.ei_session.proofs.SerialLaws.{down_more}
use Rattle.ei_session.proofs.WaitingLaws.{group_by}
use Rattle.ei_session.proofs.GivenByItem.{gives_input, gives_none, frames_input, frames_none}
use Rattle.ei_session.proofs.RefusedMeans.{refusal_asked}
use Rattle.ei_wire.specs.declared.arg.RawFloat.{RawFloat}
use Rattle.ei_input.specs.declared.input_event.InputEvent.{InputEvent}
use Rattle.ei_request.specs.Keys.{DeviceKey}
use Rattle.ei_request.specs.Held.{DeviceView, is_device, has_interface, changed_first, takes_input}
use Rattle.ei_request.specs.Converter.{ConverterView}
use Rattle.ei_request.specs.Handling.{handled}
use Rattle.ei_standing.specs.Standing.{IsDevice, AreDevices, IsHeld, TookOne, request_in_code}
use Rattle.ei_standing.proofs.RisingDevices.{changed_if, first_is}
use Rattle.ei_standing.proofs.HeldPlainly.{Follows, devices_more, keeps_itself, held_plainly, not_zero, same_name, device_synced}
use Rattle.ei_standing.proofs.ToDevices.{There, releases_so, item_so, input_so, reply_so, to_interface, device_of_it, held_there}
use Rattle.ei_standing.proofs.FrameLaw.{same_id, quiet_bytes}
use Rattle.ei_standing.proofs.HeardInputs.{heard_by, heard, takes_as, heard_as, touched_as, touched_once, unheard}

-- ---- what it changes

-- the item of an input that is heard or not
abbrev item_if : Bool → ℕ → InputEvent → Option Asking
item_if b d i = cond b (Some (Waits d i)) None

module _ (setup : Setup) (past : List Raw) (m : Raw) (d : ℕ) (i : InputEvent) (gave : item past m ≡ item_if (is_heard past d i) d i) (asked : input past m ≡ Some (record { device = d; input = i }))
    (fresh : (t : ℕ) (x y : RawFloat) → i ≡ TouchDown t x y → is_down past d t ≡ false) where
  down_after : (id q : ℕ) (b : Bool) → eqb d id ≡ b → is_down (m ∷ past) id q ≡ unwrap_or (cond b (said_by q i) None) (is_down past id q)
  unfolding touches
  down_after id q b t =
      down_more past m id q ∙ ap (λ (o : Option DeviceInput). unwrap_or (said_of id q o) (is_down past id q)) asked
      ∙ ap (λ (x : Bool). unwrap_or (cond x (said_by q i) None) (is_down past id q)) t

  waits_if : (id : ℕ) (b x : Bool) → eqb d id ≡ x → is_heard past d i ≡ b → group id (each (slot setup) (m ∷ past)) ≡ cond b (cond x (group id (each (slot setup) past) ++ (i ∷ [])) (group id (each (slot setup) past))) (group id (each (slot setup) past))
  waits_if id true x t e =
      group_by setup past m id (Some (Waits d i)) (gave ∙ ap (λ (b : Bool). item_if b d i) e)
      ∙ ap (λ (y : Bool). cond y (group id (each (slot setup) past) ++ (i ∷ [])) (group id (each (slot setup) past))) t
  waits_if id false x t e = group_by setup past m id None (gave ∙ ap (λ (b : Bool). item_if b d i) e)

  -- on its device
  here_by : (v : DeviceView) (b : Bool) → is_heard past d i ≡ b → eqb d d ≡ true → IsDevice setup past d v → Follows setup past m d (cond b (heard i v) v)
  here_by v true e t h = record {
    waiting = ap (λ (ws : List InputEvent). ws ++ i ∷ []) h.waiting ∙ sym (waits_if d true true t e);
    touches = λ q. touched_as i v.touches q h.once ∙ ap (unwrap_or (said_by q i)) (h.touches q) ∙ sym (down_after d q true t);
    once = touched_once i v.touches h.once (λ a x y same. h.touches a ∙ fresh a x y same);
  }
  here_by v false e t h = record {
    waiting = h.waiting ∙ sym (waits_if d false true t e);
    touches = λ q. h.touches q ∙ sym (unheard past d i q e) ∙ sym (down_after d q true t);
    once = h.once;
  }

  -- and on the others
  there_by : (id : ℕ) (v : DeviceView) (b : Bool) → is_heard past d i ≡ b → eqb d id ≡ false → IsDevice setup past id v → Follows setup past m id v
  there_by id v true e t h = record {
    waiting = h.waiting ∙ sym (waits_if id true false t e);
    touches = λ q. h.touches q ∙ sym (down_after id q false t);
    once = h.once;
  }
  there_by id v false e t h = record {
    waiting = h.waiting ∙ sym (waits_if id false false t e);
    touches = λ q. h.touches q ∙ sym (down_after id q false t);
    once = h.once;
  }

  input_at : (id : ℕ) (v : DeviceView) (x : Bool) → eqb d id ≡ x → IsDevice setup past id v → Follows setup past m id (cond x (takes_input i v) v)
  input_at id v true t h =
      let same : d ≡ id = eqb-true d id t in
      let own : IsDevice setup past d v = subst (λ (n : ℕ). IsDevice setup past n v) (sym same) h in
      let itself : eqb d d ≡ true = ap (eqb d) same ∙ t in
      let is : takes_input i v ≡ cond (is_heard past d i) (heard i v) v = takes_as i v ∙ ap (λ (b : Bool). cond b (heard i v) v) (heard_as setup past d i v own) in
      subst (λ (n : ℕ). Follows setup past m n (takes_input i v)) same
      (subst (Follows setup past m d) (sym is) (here_by v (is_heard past d i) refl itself own))
  input_at id v false t h = there_by id v (is_heard past d i) refl t h

  input_follows : (id : ℕ) (v : DeviceView) → IsDevice setup past id v → Follows setup past m id (changed_if d (takes_input i) v)
  input_follows id v h =
      let here : nat_eq v.device.proxy.id d ≡ eqb d id = same_id v.device.proxy.id d id (eqb d id) (ap (λ (x : DeviceKey). x.proxy.id) h.device) refl in
      rw here (input_at id v (eqb d id) refl h)

  kept_by : {X : Type 0} (field : DeviceView → X) → ((v : DeviceView) → field (heard i v) ≡ field v) → (b : Bool) (v : DeviceView) → field (cond b (takes_input i v) v) ≡ field v
  kept_by field same true v = ap field (takes_as i v) ∙ by (heard_by i v)
    where
      by : (x : Bool) → field (cond x (heard i v) v) ≡ field v
      by true = same v
      by false = refl
  kept_by field same false v = refl

  pub devices_heard : Plainly setup past m → (ds : List DeviceView) → AreDevices setup past ds → AreDevices setup (m ∷ past) (map (changed_if d (takes_input i)) ds)
  devices_heard plain ds h = devices_more setup past m plain (changed_if d (takes_input i))
      (λ v. kept_by (λ (x : DeviceView). x.device) (λ w. refl) (is_device d v) v) (λ v. kept_by (λ (x : DeviceView). x.name) (λ w. refl) (is_device d v) v)
      (λ v. kept_by (λ (x : DeviceView). x.interfaces) (λ w. refl) (is_device d v) v) input_follows ds h

  gives_by : (all : List ℕ) (b : Bool) → is_heard past d i ≡ b → gives all (each (slot setup) past) (slot setup past m) ≡ []
  gives_by all true e = gives_input setup all past m d i (gave ∙ ap (λ (b : Bool). item_if b d i) e)
  gives_by all false e = gives_none setup all past m (gave ∙ ap (λ (b : Bool). item_if b d i) e)

  pub gives_nothing : (all : List ℕ) → gives all (each (slot setup) past) (slot setup past m) ≡ []
  gives_nothing all = gives_by all (is_heard past d i) refl

  frames_by : (b : Bool) → is_heard past d i ≡ b → frames_made (each (slot setup) (m ∷ past)) ≡ frames_made (each (slot setup) past)
  frames_by true e = frames_input setup past m d i (gave ∙ ap (λ (b : Bool). item_if b d i) e)
  frames_by false e = frames_none setup past m (gave ∙ ap (λ (b : Bool). item_if b d i) e)

  pub makes_no_frame : frames_made (each (slot setup) (m ∷ past)) ≡ frames_made (each (slot setup) past)
  makes_no_frame = frames_by (is_heard past d i) refl

-- ---- a touch that is down isn't put down again

second_none : (a b : Bool) (x y : Refusal) → cond a (Some x) (cond b (Some y) None) ≡ None → b ≡ false
second_none true b x y e = absurd cc
second_none false true x y e = absurd cc
second_none false false x y e = refl

fresh_touch : (setup : Setup) (past : List Raw) (m : Raw) (e : Entry) (d : ℕ) (i : InputEvent) → object past m.id ≡ Some e → meaning e.interface m ≡ Some (Inputs i) → e.device ≡ Some d → refusal setup past m ≡ None →
    (t : ℕ) (x y : RawFloat) → i ≡ TouchDown t x y → is_down past d t ≡ false
fresh_touch setup past m e d i k w p r t x y is =
    let none : input_refusal past e.version (Some d) (TouchDown t x y) ≡ None =
    ap (input_refusal past e.version (Some d)) (sym is) ∙ ap (λ (o : Option ℕ). input_refusal past e.version o i) (sym p) ∙ sym (refusal_asked setup past m e (Inputs i) k w) ∙ r in
    second_none _ (is_down past d t) _ _ none

-- ---- the law

pub after_input : (setup : Setup) (past : List Raw) (m : Raw) (readings : List ℕ) (c : ConverterView) (e : Entry) (i : InputEvent) (time : ℕ) → IsHeld setup past readings c → object past m.id ≡ Some e →
    meaning e.interface m ≡ Some (Inputs i) → refusal setup past m ≡ None → TookOne setup past m readings [] c (handled c m.id (Inputs i) time)
after_input setup past m readings c e i time h k w r =
    let of_it = device_of_it setup past m e (Inputs i) k w refl in
    let d : ℕ = of_it.0 in
    let p : e.device ≡ Some d = of_it.1 in
    let plain : Plainly setup past m = plainly_device setup past m e d k p (releases_so setup past m e (Inputs i) k w) in
    let asked : input past m ≡ Some (record { device = d; input = i }) = input_so setup past m e (Inputs i) k w d p in
    let gave : item past m ≡ item_if (is_heard past d i) d i = item_so setup past m e (Inputs i) k w d p in
    let fresh = fresh_touch setup past m e d i k w p r in
    let ds : List DeviceView = c.handle.devices in
    let there : There setup past d (find (is_device d) ds) = held_there setup past ds m.id d e h.devices k p in
    let owner : find (has_interface m.id) ds ≡ Some there.device = h.devices.owners m.id d e k p (to_interface setup past m e (Inputs i) k w refl) ∙ there.found in
    let change : DeviceView → DeviceView = takes_input i in
    let changed : changed_first (has_interface m.id) change ds ≡ map (changed_if d change) ds = first_is (has_interface m.id) change ds 0 there.device h.devices.rise owner ∙ ap (λ (x : ℕ). map (changed_if x change) ds) there.id in
    let devices : AreDevices setup (m ∷ past) (changed_first (has_interface m.id) change ds) = subst (AreDevices setup (m ∷ past)) (sym changed) (devices_heard setup past m d i gave asked fresh plain ds h.devices) in
    record {
      held = held_plainly setup past m readings (readings ++ []) c (handled c m.id (Inputs i) time) plain h (keeps_itself c.handle (changed_first (has_interface m.id) change ds))
          (device_synced past m e d k p) (same_name past m (not_zero past m.id e h.connected k)) devices
          (ap (λ (rs : List ℕ). length rs) (append-nil readings) ∙ h.frames ∙ sym (makes_no_frame setup past m d i gave asked fresh));
      queue = λ later. sym (ap (λ (x : List Request). c.queue ++ map (request_in_code past) x) (gives_nothing setup past m d i gave asked fresh ((readings ++ []) ++ later)) ∙ append-nil c.queue);
      unsent = quiet_bytes c.handle.ctx.unsent (reply setup past m) (reply_so setup past m e (Inputs i) k w h.connected);
      unread = refl;
      handles = refl;
    }
