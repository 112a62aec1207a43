-- A device is closed and taken away: what waits is handed out behind a made frame, and then that it closes.
use Rattle.std.proofs.Common.{◌≡◌, ◌≢◌, ℕ, Bool, true, false, cond, eqb, List, [], ◌∷◌, ◌++◌, Option, Some, None, refl, sym, ap, ◌∙◌, subst, arith, eq-eqb}
use Rattle.std.specs.Prelude.{find, filter, not, nat_eq, codes}
use Rattle.std.specs.Option.{option_map}
use Rattle.std.specs.List.{list_any, AllByRecursion}
use Rattle.std.proofs.lemmas.Bool.{eqb-true}
use Rattle.std.proofs.lemmas.Bool.Decides.{nat_tests}
use Rattle.ei_spec.specs.declared.interface.KnownInterface.TheVariants as known
use Rattle.ei_spec.specs.Interface.{ObjectView}
use Rattle.ei_spec.specs.Message.{Raw}
use Rattle.ei_spec.specs.History.{each}
use Rattle.ei_spec.specs.Groups.{Other, group}
use Rattle.ei_backend.specs.Endpoint.{endpoint_of}
use Rattle.ei_session.specs.Setup.{Setup, seat_id}
use Rattle.ei_session.specs.Asked.{asks}
use Rattle.ei_session.specs.Handshake.{connected}
use Rattle.ei_session.specs.Meaning.{Closes, meaning}
use Rattle.ei_session.specs.Devices.{made}
use Rattle.ei_session.specs.Objects.{Entry, object, was_device, is_device as is_of_device, is_of, is_release, interfaces_left, gone}
use Rattle.ei_session.specs.Touches.{input}
use Rattle.ei_session.specs.Requests.{DeviceClosed, item, slot}
use Rattle.ei_session.proofs.Choices.{not_both}
use Rattle.ei_session.proofs.ObjectLaws.{object_device_left}
use Rattle.ei_session.proofs.ObjectShape as shape
use Rattle.ei_session.proofs.GoneLaws.{object_device, gone_self}
use Rattle.ei_session.proofs.DeviceRange.{left_device_release}
use Rattle.ei_session.proofs.LeftInterfaces.{left_there}
use Rattle.ei_session.proofs.GoesByRelease.{release_gone}
use Rattle.ei_session.proofs.SerialLaws.{version_fixed, gone_device}
use Rattle.ei_session.proofs.WaitingLaws.{group_by, touch_none}
use Rattle.ei_request.specs.Keys.{DeviceKey}
use Rattle.ei_request.specs.Held.{DeviceView, is_device, is_of_key, emptied, gone_ids, changed_first, without_first}
use Rattle.ei_request.specs.Connection.{ConnectionView}
use Rattle.ei_request.specs.Converter.{ConverterView}
use Rattle.ei_request.specs.Sending.{destroys_all, serial_after}
use Rattle.ei_request.specs.Removing.{RemovesDevice}
use Rattle.ei_request.specs.Handling.{closes, closed_of, device_in, handled}
use Rattle.ei_standing.specs.Standing.{object_of, device_of, IsDevice, IsHeldAt, AreDevices, IsHeld, TookOne, used_by}
use Rattle.ei_request.proofs.FirstOnes.{any_some}
use Rattle.ei_standing.proofs.RisingDevices.{all_of, find_same, without_same, find_kept, find_none_kept, find_gone, rises_kept, first_gone}
use Rattle.ei_standing.proofs.RisingDevices.{gone_changed, found_changed}
use Rattle.ei_standing.proofs.HeldPlainly.{has_left, all_held, are_devices}
use Rattle.ei_standing.proofs.ToDevices.{There, release_is, releases_so, item_so, input_so, device_itself, to_device, held_there}
use Rattle.ei_standing.proofs.ClosingLaws.{closing_frames, closing_queue}
use Rattle.ei_standing.proofs.GoneObjects.{took_gone}

was_some : (o : Option Entry) → was_device o ≡ true → (e : Entry) × (o ≡ Some e) × (e.interface ≡ known.Device)
unfolding was_device
was_some None h = absurd cc
was_some (Some e) h = (e, refl, kind_of e.interface h)
  where
    kind_of : (k : _) → is_of_device k ≡ true → k ≡ known.Device
    kind_of known.Device h = refl
    kind_of k h = absurd cc

was_none : was_device None ≡ false
unfolding was_device
was_none = refl

still_none : (b : Bool) (o : Option Entry) → was_device o ≡ false → was_device (cond b None o) ≡ false
unfolding was_device
still_none true o h = refl
still_none false o h = h

-- ---- the devices that are left

module _ (setup : Setup) (past : List Raw) (m : Raw) (e : Entry) (on : connected past ≡ true) (k : object past m.id ≡ Some e) (i : e.interface ≡ known.Device) (r : is_release (Some e) m ≡ true)
    (item_is : item past m ≡ Some (Other m.id (DeviceClosed m.id))) (no_input : input past m ≡ None) where
  own : e.device ≡ Some m.id
  own = object_device past m.id e k i

  none : made past m ≡ None
  unfolding is_release
  none = shape.release_makes_nothing past m e.interface r

  device_same : (id : ℕ) → device_of (m ∷ past) id ≡ device_of past id
  device_same id = rw (version_fixed past m known.Seat on, version_fixed past m known.Device on) refl

  -- what is of another device stays
  pub other_stays : (id d : ℕ) (x : Entry) → object past id ≡ Some x → x.device ≡ Some d → d ≢ m.id → object (m ∷ past) id ≡ object past id
  unfolding is_of
  other_stays id d x q p far =
      let away : eqb d m.id ≡ false = grind (arith, nat_tests, far) in
      object_device_left past m e id k own i r (ap (is_of m.id) q ∙ shape.of_is m.id x d p ∙ away)

  held_kept : (id : ℕ) (v : DeviceView) → id ≢ m.id → IsDevice setup past id v → IsDevice setup (m ∷ past) id v
  held_kept id v far h =
      let w = was_some (object past id) h.there in
      let same : object (m ∷ past) id ≡ object past id = other_stays id id w.0 w.1 (object_device past id w.0 w.1 w.2) far in
      let other : eqb m.id id ≡ false = grind (arith, nat_tests, far) in
      let group_same : group id (each (slot setup) (m ∷ past)) ≡ group id (each (slot setup) past) = group_by setup past m id _ item_is ∙ ap (λ (b : Bool). cond b [] (group id (each (slot setup) past))) other in
      record {
        there = rw same h.there;
        device = h.device ∙ sym (device_same id);
        unnamed = h.unnamed;
        interfaces = h.interfaces ∙ sym (left_device_release past m e id none k own i r far);
        objects = λ a o q.
            let has : list_any (nat_eq a) (interfaces_left past id) ≡ true = sym (has_left setup past a id v h) ∙ any_some (λ (x : ObjectView). nat_eq x.id a) v.interfaces o q in
            let l = left_there past id a has in
            ap (option_map (object_of a)) (other_stays a id l.entry l.is l.own far) ∙ h.objects a o q;
        waiting = rw group_same h.waiting;
        touches = λ touch. h.touches touch ∙ sym (touch_none past m no_input id touch);
        once = h.once;
      }

  left_at : (ds : List DeviceView) (id : ℕ) (b : Bool) (o : Option DeviceView) → eqb id m.id ≡ b → find (is_device id) ds ≡ o → IsHeldAt setup past id o → IsHeldAt setup (m ∷ past) id (find (is_device id) (filter (λ d. not (is_device m.id d)) ds))
  left_at ds id true o t f h =
      let same : id ≡ m.id = eqb-true id m.id t in
      subst (λ (x : ℕ). IsHeldAt setup (m ∷ past) x (find (is_device x) (filter (λ d. not (is_device m.id d)) ds))) (sym same)
      (rw (find_gone (is_device m.id) ds) (rw (gone_self past m e k r) was_none))
  left_at ds id false None t f h = rw (find_none_kept (is_device id) (λ d. not (is_device m.id d)) ds f) (rw (release_gone past m e k r id) (still_none (list_any (nat_eq id) (gone past m)) (object past id) h))
  left_at ds id false (Some v) t f h =
      let far : id ≢ m.id = λ same. not_both (eqb id m.id) (eq-eqb id m.id same) t in
      let mine : v.device.proxy.id ≡ id = ap (λ (x : DeviceKey). x.proxy.id) h.device in
      let kept : not (is_device m.id v) ≡ true = let other : nat_eq v.device.proxy.id m.id ≡ false = grind (arith, nat_tests, far, mine) in rw other refl in
      rw (find_kept (is_device id) (λ d. not (is_device m.id d)) ds v f kept) (held_kept id v far h)

  pub devices_left : (ds : List DeviceView) → AreDevices setup past ds → AreDevices setup (m ∷ past) (filter (λ d. not (is_device m.id d)) ds)
  devices_left ds h = are_devices setup (m ∷ past) (filter (λ d. not (is_device m.id d)) ds) (rises_kept (λ d. not (is_device m.id d)) ds 0 h.rise)
      (λ id. left_at ds id (eqb id m.id) (find (is_device id) ds) refl refl (h.each_one id))

-- ---- what is taken away

-- the key of a device that is held tells no more than its id
key_is : (setup : Setup) (past : List Raw) (id d : ℕ) (v : DeviceView) → IsDevice setup past id v → is_of_key (device_of past d) v ≡ is_device d v
key_is setup past id d v h = let seat : nat_eq v.device.seat.id seat_id ≡ true = ap (λ (x : DeviceKey). nat_eq x.seat.id seat_id) h.device in rw seat refl

all_emptied : (P : DeviceView → Type 0) (d : ℕ) → ((v : DeviceView) → P v → P (emptied v)) → (ds : List DeviceView) → AllByRecursion P ds → AllByRecursion P (changed_first (is_device d) emptied ds)
all_emptied P d f [] h = tt
all_emptied P d f (v ∷ ds) h = by (is_device d v) (all_emptied P d f ds h.1)
  where
    by : (b : Bool) → AllByRecursion P (changed_first (is_device d) emptied ds) → AllByRecursion P (cond b (emptied v ∷ ds) (v ∷ changed_first (is_device d) emptied ds))
    by true next = (f v h.0, h.1)
    by false next = (h.0, next)

same_ids : (setup : Setup) (past : List Raw) (id : ℕ) (v : DeviceView) → IsDevice setup past id v → gone_ids (Some (emptied v)) ≡ interfaces_left past id ++ (id ∷ [])
same_ids setup past id v h = ap (λ (ids : List ℕ). ids ++ v.device.proxy.id ∷ []) h.interfaces ∙ ap (λ (x : DeviceKey). interfaces_left past id ++ x.proxy.id ∷ []) h.device

-- ---- the law

pub after_release : (setup : Setup) (past : List Raw) (m : Raw) (readings : List ℕ) (c : ConverterView) (e : Entry) (time : ℕ) (handle : ConnectionView) → IsHeld setup past readings c →
    object past m.id ≡ Some e → meaning e.interface m ≡ Some Closes → RemovesDevice (handled c m.id Closes time).handle (device_of past m.id) handle →
    TookOne setup past m readings (used_by (group m.id (each (slot setup) past)) time) c (record (handled c m.id Closes time) { handle = handle })
after_release setup past m readings c e time handle h k w removed =
    let d : ℕ = m.id in
    let i : e.interface ≡ known.Device = to_device setup past m e Closes k w refl in
    let p : e.device ≡ Some d = device_itself setup past m e Closes k w refl in
    let r : asks e.interface (codes "release") m ≡ true = releases_so setup past m e Closes k w in
    let gave : item past m ≡ Some (Other d (DeviceClosed d)) = item_so setup past m e Closes k w d p in
    let no_input : input past m ≡ None = input_so setup past m e Closes k w d p in
    let ds : List DeviceView = c.handle.devices in
    let used : List ℕ = used_by (group d (each (slot setup) past)) time in
    let there : There setup past d (device_in c d) = held_there setup past ds m.id d e h.devices k p in
    let closed : ConverterView = closes c d time closed_of (Some there.device) in
    let is : handled c d Closes time ≡ closed = ap (closes c d time closed_of) there.found in
    let removes : RemovesDevice closed.handle (device_of past d) handle = subst (λ (x : ConverterView). RemovesDevice x.handle (device_of past d) handle) is removed in
    let empty : List DeviceView = changed_first (is_device d) emptied ds in
    let keys : AllByRecursion (λ v. is_of_key (device_of past d) v ≡ is_device d v) empty =
    all_emptied (λ v. is_of_key (device_of past d) v ≡ is_device d v) d (λ v q. q) ds
    (all_of (λ v. IsDevice setup past v.device.proxy.id v) (λ v. is_of_key (device_of past d) v ≡ is_device d v) (λ v q. key_is setup past v.device.proxy.id d v q) ds (all_held setup past ds h.devices.rise h.devices.each_one)) in
    let found_there : find (is_of_key (device_of past d)) empty ≡ Some (emptied there.device) = find_same (is_of_key (device_of past d)) (is_device d) empty keys ∙ found_changed (is_device d) emptied (λ x. refl) ds there.device there.found in
    let ids : gone_ids (find (is_of_key (device_of past d)) empty) ≡ gone past m = ap gone_ids found_there ∙ same_ids setup past d there.device there.is ∙ sym (gone_device past m e k i (release_is m e r)) in
    let left : handle.devices ≡ filter (λ v. not (is_device d v)) ds =
    ap (λ (x : ConnectionView). x.devices) removes.rest ∙ without_same (is_of_key (device_of past d)) (is_device d) empty keys ∙ gone_changed (is_device d) emptied (λ x. refl) ds ∙ first_gone d ds 0 h.devices.rise in
    let new : ConverterView = record closed { handle = handle } in
    let took : TookOne setup past m readings used c new = took_gone setup past m readings used c new e d h k p r
    (removes.endpoint ∙ ap (destroys_all (endpoint_of c.handle.ctx) c.handle.last_serial) ids)
    (removes.rest ∙ ap (λ (n : List ℕ). record c.handle { ctx = handle.ctx; last_serial = serial_after c.handle.last_serial n; devices = without_first (is_of_key (device_of past d)) empty }) ids
    ∙ ap (λ (x : List DeviceView). record c.handle { ctx = handle.ctx; last_serial = serial_after c.handle.last_serial (gone past m); devices = x }) (sym (ap (λ (x : ConnectionView). x.devices) removes.rest)))
    (subst (AreDevices setup (m ∷ past)) (sym left) (devices_left setup past m e h.connected k i (release_is m e r) gave no_input ds h.devices))
    (closing_frames setup past m readings c d time (DeviceClosed d) closed_of h gave refl)
    (closing_queue setup past m readings c d time (DeviceClosed d) closed_of h gave refl there.device there.is) in
    subst (λ (x : ConverterView). TookOne setup past m readings used c (record x { handle = handle })) (sym is) took
