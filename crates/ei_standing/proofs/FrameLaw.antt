-- A frame hands out what waits on its device.
use Rattle.std.proofs.Common.{◌≡◌, ℕ, Bool, true, false, cond, eqb, List, [], ◌∷◌, ◌++◌, length, Some, refl, sym, ap, ◌∙◌, subst, arith}
use Rattle.std.specs.Prelude.{map, find, nat_eq}
use Rattle.std.proofs.lemmas.List.{map-append, append-nil}
use Rattle.std.proofs.lemmas.Bool.Decides.{nat_tests}
use Rattle.ei_spec.specs.Message.{Raw, all_bytes}
use Rattle.ei_spec.specs.History.{each}
use Rattle.ei_spec.specs.Groups.{Frame, group, with_frame, timed as timed_of}
use Rattle.ei_session.specs.Setup.{Setup}
use Rattle.ei_session.specs.Meaning.{Frames, meaning}
use Rattle.ei_session.specs.Objects.{Entry, object}
use Rattle.ei_session.specs.Touches.{is_down}
use Rattle.ei_session.specs.Requests.{Request, item, slot}
use Rattle.ei_session.specs.Events.{reply}
use Rattle.ei_session.specs.Kept.{Plainly}
use Rattle.ei_session.proofs.KeptByRequests.{plainly_device}
use Rattle.ei_session.proofs.WaitingLaws.{group_by, touch_none}
use Rattle.ei_session.proofs.GivenByItem.{gives_frame, frames_frame}
use Rattle.ei_request.specs.declared.event.EisRequest.{EisRequest}
use Rattle.ei_request.specs.declared.event.EisRequest.TheVariants as handed
use Rattle.ei_input.specs.declared.input_event.InputEvent.{InputEvent}
use Rattle.ei_request.specs.Keys.{DeviceKey}
use Rattle.ei_request.specs.Event.{timed}
use Rattle.ei_request.specs.Held.{DeviceView, is_device, changed_first, emptied, group_requests}
use Rattle.ei_request.specs.Converter.{ConverterView}
use Rattle.ei_request.specs.Handling.{hands_out, device_in, handled}
use Rattle.ei_standing.specs.Standing.{device_of, IsDevice, AreDevices, IsHeld, TookOne, request_in_code}
use Rattle.ei_standing.proofs.RisingDevices.{changed_if, first_is}
use Rattle.ei_standing.proofs.HeldPlainly.{Follows, devices_more, keeps_itself, held_plainly, not_zero, same_name, device_synced}
use Rattle.ei_standing.proofs.ToDevices.{There, releases_so, item_so, input_so, reply_so, device_itself, held_there}

-- ---- a device on which nothing waits any more

pub same_id : (a b c : ℕ) (x : Bool) → a ≡ c → eqb b c ≡ x → nat_eq a b ≡ x
same_id a b c true e t = grind (arith, nat_tests)
same_id a b c false e t = grind (arith, nat_tests)

module _ (setup : Setup) (past : List Raw) (m : Raw) (d : ℕ) (gone : (id : ℕ) → group id (each (slot setup) (m ∷ past)) ≡ cond (eqb d id) [] (group id (each (slot setup) past)))
    (down : (id touch : ℕ) → is_down (m ∷ past) id touch ≡ is_down past id touch) where
  emptied_as : (id : ℕ) (v : DeviceView) (x : Bool) → eqb d id ≡ x → IsDevice setup past id v → Follows setup past m id (cond x (emptied v) v)
  emptied_as id v true t h =
      let is : group id (each (slot setup) (m ∷ past)) ≡ [] = gone id ∙ ap (λ (x : Bool). cond x [] (group id (each (slot setup) past))) t in
      record { waiting = rw is refl; touches = λ touch. h.touches touch ∙ sym (down id touch); once = h.once }
  emptied_as id v false t h =
      let is : group id (each (slot setup) (m ∷ past)) ≡ group id (each (slot setup) past) = gone id ∙ ap (λ (x : Bool). cond x [] (group id (each (slot setup) past))) t in
      record { waiting = rw is h.waiting; touches = λ touch. h.touches touch ∙ sym (down id touch); once = h.once }

  emptied_follows : (id : ℕ) (v : DeviceView) → IsDevice setup past id v → Follows setup past m id (changed_if d emptied v)
  emptied_follows id v h =
      let here : nat_eq v.device.proxy.id d ≡ eqb d id = same_id v.device.proxy.id d id (eqb d id) (ap (λ (x : DeviceKey). x.proxy.id) h.device) refl in
      rw here (emptied_as id v (eqb d id) refl h)

  emptied_device : (b : Bool) (v : DeviceView) → (cond b (emptied v) v).device ≡ v.device
  emptied_device true v = refl
  emptied_device false v = refl

  emptied_name : (b : Bool) (v : DeviceView) → (cond b (emptied v) v).name ≡ v.name
  emptied_name true v = refl
  emptied_name false v = refl

  emptied_interfaces : (b : Bool) (v : DeviceView) → (cond b (emptied v) v).interfaces ≡ v.interfaces
  emptied_interfaces true v = refl
  emptied_interfaces false v = refl

  -- the devices where that one is emptied
  pub devices_emptied : Plainly setup past m → (ds : List DeviceView) → AreDevices setup past ds → There setup past d (find (is_device d) ds) → AreDevices setup (m ∷ past) (changed_first (is_device d) emptied ds)
  devices_emptied plain ds h there =
      let changed : changed_first (is_device d) emptied ds ≡ map (changed_if d emptied) ds = first_is (is_device d) emptied ds 0 there.device h.rise there.found ∙ ap (λ (x : ℕ). map (changed_if x emptied) ds) there.id in
      subst (AreDevices setup (m ∷ past)) (sym changed)
      (devices_more setup past m plain (changed_if d emptied) (λ v. emptied_device (is_device d v) v) (λ v. emptied_name (is_device d v) v) (λ v. emptied_interfaces (is_device d v) v) emptied_follows ds h)

-- ---- a group and its frame as the code hands them out

timed_as : (past : List Raw) (d t : ℕ) (xs : List InputEvent) → map (request_in_code past) (timed_of d t xs) ≡ map (timed (device_of past d) t) xs
unfolding timed_of
timed_as past d t [] = refl
timed_as past d t (x ∷ xs) = ap (λ (ys : List EisRequest). timed (device_of past d) t x ∷ ys) (timed_as past d t xs)

pub group_as : (past : List Raw) (d s t : ℕ) (xs : List InputEvent) → map (request_in_code past) (with_frame xs d s t) ≡ group_requests (device_of past d) xs s t
unfolding with_frame
group_as past d s t [] = refl
group_as past d s t (x ∷ xs) =
    map-append (request_in_code past) (timed_of d t (x ∷ xs)) _ ∙ ap (λ (ys : List EisRequest). ys ++ handed.Frame (record { device = device_of past d; last_serial = s; time = t }) ∷ []) (timed_as past d t (x ∷ xs))

-- what waits on a device that is held is the group of its history
pub waits_there : (setup : Setup) (past : List Raw) (d s t : ℕ) (v : DeviceView) → IsDevice setup past d v → group_requests v.device v.waiting s t ≡ group_requests (device_of past d) (group d (each (slot setup) past)) s t
waits_there setup past d s t v h = ap (λ (x : DeviceKey). group_requests x v.waiting s t) h.device ∙ ap (λ (ws : List InputEvent). group_requests (device_of past d) ws s t) h.waiting

pub quiet_bytes : (old : List ℕ) (events : List Raw) → events ≡ [] → old ≡ old ++ all_bytes events
quiet_bytes old events e = rw e (sym (append-nil old))

-- ---- the law

pub after_frame : (setup : Setup) (past : List Raw) (m : Raw) (readings : List ℕ) (c : ConverterView) (e : Entry) (s t time : ℕ) → IsHeld setup past readings c → object past m.id ≡ Some e → meaning e.interface m ≡ Some (Frames s t) →
    TookOne setup past m readings [] c (handled c m.id (Frames s t) time)
after_frame setup past m readings c e s t time h k w =
    let d : ℕ = m.id in
    let p : e.device ≡ Some d = device_itself setup past m e (Frames s t) k w refl in
    let plain : Plainly setup past m = plainly_device setup past m e d k p (releases_so setup past m e (Frames s t) k w) in
    let gave : item past m ≡ Some (Frame d s t) = item_so setup past m e (Frames s t) k w d p in
    let there : There setup past d (device_in c d) = held_there setup past c.handle.devices m.id d e h.devices k p in
    let devices : AreDevices setup (m ∷ past) (changed_first (is_device d) emptied c.handle.devices) =
    devices_emptied setup past m d (λ id. group_by setup past m id (Some (Frame d s t)) gave) (λ id x. touch_none past m (input_so setup past m e (Frames s t) k w d p) id x) plain c.handle.devices h.devices there in
    let new : ConverterView = hands_out c d s t (Some there.device) in
    let took : TookOne setup past m readings [] c new = record {
      held = held_plainly setup past m readings (readings ++ []) c new plain h (keeps_itself c.handle (changed_first (is_device d) emptied c.handle.devices))
          (device_synced past m e d k p) (same_name past m (not_zero past d e h.connected k)) devices
          (ap (λ (rs : List ℕ). length rs) (append-nil readings) ∙ h.frames ∙ sym (frames_frame setup past m d s t gave));
      queue = λ later. ap (λ (x : List EisRequest). c.queue ++ x) (waits_there setup past d s t there.device there.is ∙ sym (group_as past d s t (group d (each (slot setup) past))))
          ∙ sym (ap (λ (x : List Request). c.queue ++ map (request_in_code past) x) (gives_frame setup ((readings ++ []) ++ later) past m d s t gave));
      unsent = quiet_bytes c.handle.ctx.unsent (reply setup past m) (reply_so setup past m e (Frames s t) k w h.connected);
      unread = refl;
      handles = refl;
    } in
    subst (TookOne setup past m readings [] c) (ap (hands_out c d s t) (sym there.found)) took
