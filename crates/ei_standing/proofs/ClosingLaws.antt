-- A request that closes the group of its device: what waits is handed out behind a made frame, and then the request.
use Rattle.std.proofs.Common.{◌≡◌, ℕ, ◌+◌, false, List, [], ◌∷◌, ◌++◌, length, Some, None, refl, sym, ap, ◌∙◌, subst, append_assoc}
use Rattle.std.specs.Prelude.{map, slice_index}
use Rattle.std.proofs.lemmas.List.{length-append, map-append}
use Rattle.ei_spec.specs.declared.interface.KnownInterface.TheVariants as known
use Rattle.ei_spec.specs.Message.{Raw}
use Rattle.ei_spec.specs.History.{each}
use Rattle.ei_spec.specs.Groups.{Other, Plain as Given, group, frames_made, gives, with_frame}
use Rattle.ei_session.specs.Setup.{Setup}
use Rattle.ei_input.specs.declared.input_event.InputEvent.{InputEvent}
use Rattle.ei_session.specs.Meaning.{Meaning, Starts, Stops, Readies, meaning}
use Rattle.ei_session.specs.ByMeaning.{of_interface, releases, input_in, item_for}
use Rattle.ei_session.specs.AnsweredByMeaning.{reply_for}
use Rattle.ei_session.specs.Objects.{Entry, object}
use Rattle.ei_session.specs.Serial.{serial}
use Rattle.ei_session.specs.Touches.{of_device, input}
use Rattle.ei_session.specs.Requests.{Request, Plain, Ready, DeviceStartEmulating, DeviceStopEmulating, item, slot}
use Rattle.ei_session.specs.Events.{reply}
use Rattle.ei_session.specs.Kept.{Plainly, frames_for}
use Rattle.ei_session.proofs.KeptByRequests.{plainly_device}
use Rattle.ei_session.proofs.WaitingLaws.{group_by, touch_none}
use Rattle.ei_session.proofs.GivenByItem.{gives_other, frames_other}
use Rattle.ei_request.specs.declared.event.EisRequest.{EisRequest}
use Rattle.ei_request.specs.Keys.{DeviceKey}
use Rattle.ei_request.specs.Held.{DeviceView, is_device, changed_first, emptied, group_requests}
use Rattle.ei_request.specs.Converter.{ConverterView}
use Rattle.ei_request.specs.Handling.{closes, device_in, handled, start_of, stop_of, ready_of}
use Rattle.ei_standing.specs.Standing.{device_of, IsDevice, AreDevices, IsHeld, TookOne, plain_in_code, request_in_code, used_by}
use Rattle.ei_standing.proofs.HeldPlainly.{keeps_itself, held_plainly, not_zero, same_name, device_synced}
use Rattle.ei_standing.proofs.ToDevices.{There, releases_so, item_so, input_so, reply_so, device_itself, held_there}
use Rattle.ei_standing.proofs.FrameLaw.{devices_emptied, group_as, waits_there, quiet_bytes}

-- ---- the reading of a made frame

pub used_length : (g : List InputEvent) (time : ℕ) → length (used_by g time) ≡ frames_for g
used_length [] time = refl
used_length (x ∷ g) time = refl

next_reading : (readings later : List ℕ) (time : ℕ) → slice_index ((readings ++ time ∷ []) ++ later) (length readings) ≡ time
next_reading [] later time = refl
next_reading (x ∷ readings) later time = next_reading readings later time

group_out : (past : List Raw) (d s time : ℕ) (readings later : List ℕ) (n : ℕ) (g : List InputEvent) → length readings ≡ n →
    group_requests (device_of past d) g s time ≡ map (request_in_code past) (with_frame g d s (slice_index ((readings ++ used_by g time) ++ later) n))
unfolding with_frame
group_out past d s time readings later n [] e = refl
group_out past d s time readings later n (x ∷ g) e =
    let t : slice_index ((readings ++ time ∷ []) ++ later) n ≡ time = ap (slice_index ((readings ++ time ∷ []) ++ later)) (sym e) ∙ next_reading readings later time in
    sym (ap (λ (z : ℕ). map (request_in_code past) (with_frame (x ∷ g) d s z)) t ∙ group_as past d s time (x ∷ g))

-- ---- what is queued and how many frames are made

module _ (setup : Setup) (past : List Raw) (m : Raw) (readings : List ℕ) (c : ConverterView) (d time : ℕ) (y : Plain) (make : DeviceKey → EisRequest) (h : IsHeld setup past readings c)
    (gave : item past m ≡ Some (Other d y)) (makes : make (device_of past d) ≡ plain_in_code past y) where
  pub closing_frames : length (readings ++ used_by (group d (each (slot setup) past)) time) ≡ frames_made (each (slot setup) (m ∷ past))
  closing_frames =
      length-append readings (used_by (group d (each (slot setup) past)) time) ∙ ap (λ (n : ℕ). n + length (used_by (group d (each (slot setup) past)) time)) h.frames
      ∙ ap (λ (n : ℕ). frames_made (each (slot setup) past) + n) (used_length (group d (each (slot setup) past)) time) ∙ sym (frames_other setup past m d y gave)

  pub closing_queue : (v : DeviceView) → IsDevice setup past d v → (later : List ℕ) → (c.queue ++ group_requests v.device v.waiting c.handle.last_serial time) ++ make v.device ∷ []
      ≡ c.queue ++ map (request_in_code past) (gives ((readings ++ used_by (group d (each (slot setup) past)) time) ++ later) (each (slot setup) past) (slot setup past m))
  closing_queue v is later =
      let g : List InputEvent = group d (each (slot setup) past) in
      let all : List ℕ = (readings ++ used_by g time) ++ later in
      let first : group_requests v.device v.waiting c.handle.last_serial time ≡ map (request_in_code past) (with_frame g d (serial setup past) (slice_index all (frames_made (each (slot setup) past)))) =
      waits_there setup past d c.handle.last_serial time v is ∙ ap (λ (s : ℕ). group_requests (device_of past d) g s time) h.serial
      ∙ group_out past d (serial setup past) time readings later (frames_made (each (slot setup) past)) g h.frames in
      let last : make v.device ≡ plain_in_code past y = ap make is.device ∙ makes in
      append_assoc c.queue (group_requests v.device v.waiting c.handle.last_serial time) (make v.device ∷ [])
      ∙ ap (λ (x : List EisRequest). c.queue ++ (x ++ make v.device ∷ [])) first
      ∙ ap (λ (x : EisRequest). c.queue ++ (map (request_in_code past) (with_frame g d (serial setup past) (slice_index all (frames_made (each (slot setup) past)))) ++ x ∷ [])) last
      ∙ ap (λ (x : List EisRequest). c.queue ++ x) (sym (map-append (request_in_code past) (with_frame g d (serial setup past) (slice_index all (frames_made (each (slot setup) past)))) (Given y ∷ [])))
      ∙ ap (λ (x : List Request). c.queue ++ map (request_in_code past) x) (sym (gives_other setup all past m d y gave))

-- ---- the laws

-- a request that only closes
after_closing : (setup : Setup) (past : List Raw) (m : Raw) (readings : List ℕ) (c : ConverterView) (e : Entry) (x : Meaning) (y : Plain) (make : DeviceKey → EisRequest) (time : ℕ) → IsHeld setup past readings c →
    object past m.id ≡ Some e → meaning e.interface m ≡ Some x → of_interface x ≡ Some known.Device → releases (Some x) ≡ false → input_in (Some x) ≡ None →
    item_for past m.id (Some m.id) (Some x) ≡ Some (Other m.id y) → reply_for setup past m (Some x) ≡ [] → make (device_of past m.id) ≡ plain_in_code past y →
    TookOne setup past m readings (used_by (group m.id (each (slot setup) past)) time) c (closes c m.id time make (device_in c m.id))
after_closing setup past m readings c e x y make time h k w of_it stays no_input item_is no_reply makes =
    let d : ℕ = m.id in
    let used : List ℕ = used_by (group d (each (slot setup) past)) time in
    let p : e.device ≡ Some d = device_itself setup past m e x k w of_it in
    let plain : Plainly setup past m = plainly_device setup past m e d k p (releases_so setup past m e x k w ∙ stays) in
    let gave : item past m ≡ Some (Other d y) = item_so setup past m e x k w d p ∙ item_is in
    let asked_none : input past m ≡ None = input_so setup past m e x k w d p ∙ ap (of_device (Some d)) no_input in
    let there : There setup past d (device_in c d) = held_there setup past c.handle.devices m.id d e h.devices k p in
    let devices : AreDevices setup (m ∷ past) (changed_first (is_device d) emptied c.handle.devices) =
    devices_emptied setup past m d (λ id. group_by setup past m id (Some (Other d y)) gave) (λ id t. touch_none past m asked_none id t) plain c.handle.devices h.devices there in
    let new : ConverterView = closes c d time make (Some there.device) in
    let took : TookOne setup past m readings used c new = record {
      held = held_plainly setup past m readings (readings ++ used) c new plain h (keeps_itself c.handle (changed_first (is_device d) emptied c.handle.devices))
          (device_synced past m e d k p) (same_name past m (not_zero past d e h.connected k)) devices (closing_frames setup past m readings c d time y make h gave makes);
      queue = closing_queue setup past m readings c d time y make h gave makes there.device there.is;
      unsent = quiet_bytes c.handle.ctx.unsent (reply setup past m) (reply_so setup past m e x k w h.connected ∙ no_reply);
      unread = refl;
      handles = refl;
    } in
    subst (TookOne setup past m readings used c) (ap (closes c d time make) (sym there.found)) took

pub after_start : (setup : Setup) (past : List Raw) (m : Raw) (readings : List ℕ) (c : ConverterView) (e : Entry) (s n time : ℕ) → IsHeld setup past readings c → object past m.id ≡ Some e → meaning e.interface m ≡ Some (Starts s n) →
    TookOne setup past m readings (used_by (group m.id (each (slot setup) past)) time) c (handled c m.id (Starts s n) time)
after_start setup past m readings c e s n time h k w =
    after_closing setup past m readings c e (Starts s n) (DeviceStartEmulating m.id s n) (start_of s n) time h k w refl refl refl refl refl refl

pub after_stop : (setup : Setup) (past : List Raw) (m : Raw) (readings : List ℕ) (c : ConverterView) (e : Entry) (s time : ℕ) → IsHeld setup past readings c → object past m.id ≡ Some e → meaning e.interface m ≡ Some (Stops s) →
    TookOne setup past m readings (used_by (group m.id (each (slot setup) past)) time) c (handled c m.id (Stops s) time)
after_stop setup past m readings c e s time h k w =
    after_closing setup past m readings c e (Stops s) (DeviceStopEmulating m.id s) (stop_of s) time h k w refl refl refl refl refl refl

pub after_ready : (setup : Setup) (past : List Raw) (m : Raw) (readings : List ℕ) (c : ConverterView) (e : Entry) (time : ℕ) → IsHeld setup past readings c → object past m.id ≡ Some e → meaning e.interface m ≡ Some Readies →
    TookOne setup past m readings (used_by (group m.id (each (slot setup) past)) time) c (handled c m.id Readies time)
after_ready setup past m readings c e time h k w =
    after_closing setup past m readings c e Readies (Ready m.id) ready_of time h k w refl refl refl refl refl refl
