-- An interface of a device is released: it leaves its device, and the client is told.
use Rattle.std.proofs.Common.{◌≡◌, ℕ, zero, suc, ◌+◌, ◌<◌, Bool, true, false, cond, ◌||◌, eqb, List, [], ◌∷◌, ◌++◌, length, Option, Some, None, refl}
use Rattle.std.proofs.Common.{sym, ap, ◌∙◌, subst, arith, eq-eqb}
use Rattle.std.specs.Prelude.{map, find, filter, not, nat_eq, is_some, codes}
use Rattle.std.specs.Option.{option_map}
use Rattle.std.specs.List.{list_any, range_with_len, IsDistinct, AllByRecursion}
use Rattle.std.proofs.lemmas.Bool.{eqb-true}
use Rattle.std.proofs.lemmas.Bool.Decides.{nat_tests}
use Rattle.std.proofs.lemmas.List.{append-nil}
use Rattle.ei_spec.specs.declared.interface.KnownInterface.TheVariants as known
use Rattle.ei_spec.specs.Interface.{ObjectView}
use Rattle.ei_spec.specs.Message.{Raw}
use Rattle.ei_spec.specs.History.{each}
use Rattle.ei_spec.specs.Groups.{group}
use Rattle.ei_backend.specs.Endpoint.{endpoint_of}
use Rattle.ei_session.specs.Setup.{Setup}
use Rattle.ei_session.specs.Asked.{asks}
use Rattle.ei_session.specs.Handshake.{connected}
use Rattle.ei_session.specs.Meaning.{Releases, meaning}
use Rattle.ei_session.specs.Devices.{made, device_interfaces}
use Rattle.ei_session.specs.Objects.{Entry, object, was_device, is_device as is_of_device, is_release, interfaces_left, gone}
use Rattle.ei_session.specs.Touches.{input}
use Rattle.ei_session.specs.Requests.{Request, item, slot}
use Rattle.ei_session.proofs.Choices.{none_some, some_is, not_both, not_true, turned}
use Rattle.ei_session.proofs.ObjectLaws.{object_interface_release}
use Rattle.ei_session.proofs.ObjectShape as shape
use Rattle.ei_session.proofs.DeviceRange.{left_release}
use Rattle.ei_session.proofs.LeftInterfaces.{left_own}
use Rattle.ei_session.proofs.SerialLaws.{version_fixed, gone_one}
use Rattle.ei_session.proofs.WaitingLaws.{group_by, touch_none}
use Rattle.ei_session.proofs.GivenByItem.{gives_none, frames_none}
use Rattle.ei_request.specs.Keys.{DeviceKey}
use Rattle.ei_request.specs.Held.{DeviceView, is_device, has_interface, changed_first, without_first, without_interface}
use Rattle.ei_request.specs.Converter.{ConverterView}
use Rattle.ei_request.specs.Sending.{destroys_all, serial_after}
use Rattle.ei_request.specs.Handling.{gives_up, handled}
use Rattle.ei_standing.specs.Standing.{object_of, device_of, IsDevice, IsHeldAt, AreDevices, IsHeld, TookOne, request_in_code}
use Rattle.ei_request.proofs.FirstOnes.{any_some}
use Rattle.ei_standing.proofs.RisingDevices.{changed_if, first_is, find_mapped, rises_mapped}
use Rattle.ei_standing.proofs.HeldPlainly.{has_left, are_devices}
use Rattle.ei_standing.proofs.ToDevices.{There, release_is, releases_so, item_so, input_so, to_interface, device_of_it, held_there}
use Rattle.ei_standing.proofs.FrameLaw.{same_id}
use Rattle.ei_standing.proofs.HeardInputs.{not_among}
use Rattle.ei_standing.proofs.GoneObjects.{took_gone}

-- ---- a device's interfaces are listed once each

all_but : (p : ℕ → Bool) (x a n : ℕ) → x < a → AllByRecursion (λ y. nat_eq x y ≡ false) (filter p (range_with_len a n))
all_but p x a zero lt = tt
all_but p x a (suc n) lt = by (p a) (all_but p x (a + 1) n (omega arith))
  where
    by : (b : Bool) → AllByRecursion (λ y. nat_eq x y ≡ false) (filter p (range_with_len (a + 1) n)) → AllByRecursion (λ y. nat_eq x y ≡ false) (cond b (a ∷ filter p (range_with_len (a + 1) n)) (filter p (range_with_len (a + 1) n)))
    by true next = (let other : nat_eq x a ≡ false = grind (arith, nat_tests) in other, next)
    by false next = next

distinct_range : (p : ℕ → Bool) (a n : ℕ) → IsDistinct nat_eq (filter p (range_with_len a n))
unfolding IsDistinct
distinct_range p a zero = tt
distinct_range p a (suc n) = by (p a) (distinct_range p (a + 1) n)
  where
    by : (b : Bool) → IsDistinct nat_eq (filter p (range_with_len (a + 1) n)) → IsDistinct nat_eq (cond b (a ∷ filter p (range_with_len (a + 1) n)) (filter p (range_with_len (a + 1) n)))
    by true next = (all_but p a (a + 1) n (omega arith), next)
    by false next = next

left_once : (past : List Raw) (d : ℕ) → IsDistinct nat_eq (interfaces_left past d)
unfolding interfaces_left
left_once past d = distinct_range (λ id. is_some (object past id)) (d + 1) (length (device_interfaces past d))

-- ---- one object is taken out of a list

none_left_out : (id : ℕ) (ids : List ℕ) → list_any (nat_eq id) ids ≡ false → filter (λ q. not (eqb id q)) ids ≡ ids
none_left_out id [] h = refl
none_left_out id (x ∷ ids) h = by (nat_eq id x) refl h (none_left_out id ids)
  where
    by : (b : Bool) → nat_eq id x ≡ b → (b || list_any (nat_eq id) ids) ≡ false → (list_any (nat_eq id) ids ≡ false → filter (λ q. not (eqb id q)) ids ≡ ids) → filter (λ q. not (eqb id q)) (x ∷ ids) ≡ x ∷ ids
    by true e h next = absurd cc
    by false e h next = rw e (ap (λ (ys : List ℕ). x ∷ ys) (next h))

ids_without : (id : ℕ) (os : List ObjectView) → IsDistinct nat_eq (map (λ o. o.id) os) → map (λ o. o.id) (without_first (λ o. nat_eq o.id id) os) ≡ filter (λ q. not (eqb id q)) (map (λ o. o.id) os)
unfolding IsDistinct
ids_without id [] h = refl
ids_without id (o ∷ os) h = by (nat_eq o.id id) refl (ids_without id os h.1)
  where
    by : (b : Bool) → nat_eq o.id id ≡ b → map (λ o. o.id) (without_first (λ o. nat_eq o.id id) os) ≡ filter (λ q. not (eqb id q)) (map (λ o. o.id) os) →
        map (λ o. o.id) (cond b os (o ∷ without_first (λ o. nat_eq o.id id) os)) ≡ filter (λ q. not (eqb id q)) (map (λ o. o.id) (o ∷ os))
    by true e next =
        let here : eqb id o.id ≡ true = turned id o.id ∙ e in
        let same : o.id ≡ id = eqb-true o.id id e in
        let others : list_any (nat_eq id) (map (λ o. o.id) os) ≡ false = ap (λ (z : ℕ). list_any (nat_eq z) (map (λ o. o.id) os)) (sym same) ∙ not_among o.id (map (λ o. o.id) os) h.0 in
        rw here (sym (none_left_out id (map (λ o. o.id) os) others))
    by false e next =
        let away : eqb id o.id ≡ false = turned id o.id ∙ e in
        rw away (ap (λ (ys : List ℕ). o.id ∷ ys) next)

-- it isn't found there any more
found_none : (id : ℕ) (os : List ObjectView) → list_any (nat_eq id) (map (λ o. o.id) os) ≡ false → find (λ o. nat_eq o.id id) os ≡ None
found_none id [] h = refl
found_none id (o ∷ os) h = by (nat_eq id o.id) refl h (found_none id os)
  where
    by : (b : Bool) → nat_eq id o.id ≡ b → (b || list_any (nat_eq id) (map (λ o. o.id) os)) ≡ false → (list_any (nat_eq id) (map (λ o. o.id) os) ≡ false → find (λ o. nat_eq o.id id) os ≡ None) →
        cond (nat_eq o.id id) (Some o) (find (λ o. nat_eq o.id id) os) ≡ None
    by true e h next = absurd cc
    by false e h next = let other : nat_eq o.id id ≡ false = turned o.id id ∙ e in rw other (next h)

filtered_out : (id : ℕ) (ids : List ℕ) → list_any (nat_eq id) (filter (λ q. not (eqb id q)) ids) ≡ false
filtered_out id [] = refl
filtered_out id (x ∷ ids) = by (eqb id x) refl (filtered_out id ids)
  where
    by : (b : Bool) → eqb id x ≡ b → list_any (nat_eq id) (filter (λ q. not (eqb id q)) ids) ≡ false → list_any (nat_eq id) (cond (not b) (x ∷ filter (λ q. not (eqb id q)) ids) (filter (λ q. not (eqb id q)) ids)) ≡ false
    by true e next = next
    by false e next = let other : nat_eq id x ≡ false = e in rw other next

gone_from : (id : ℕ) (os : List ObjectView) → IsDistinct nat_eq (map (λ o. o.id) os) → find (λ o. nat_eq o.id id) (without_first (λ o. nat_eq o.id id) os) ≡ None
gone_from id os h =
    found_none id (without_first (λ o. nat_eq o.id id) os) (ap (list_any (nat_eq id)) (ids_without id os h) ∙ filtered_out id (map (λ o. o.id) os))

-- the others are
stays_in : (id i : ℕ) (os : List ObjectView) → nat_eq id i ≡ false → find (λ o. nat_eq o.id i) (without_first (λ o. nat_eq o.id id) os) ≡ find (λ o. nat_eq o.id i) os
stays_in id i [] h = refl
stays_in id i (o ∷ os) h = by (nat_eq o.id id) refl (stays_in id i os h)
  where
    by : (b : Bool) → nat_eq o.id id ≡ b → find (λ o. nat_eq o.id i) (without_first (λ o. nat_eq o.id id) os) ≡ find (λ o. nat_eq o.id i) os →
        find (λ o. nat_eq o.id i) (cond b os (o ∷ without_first (λ o. nat_eq o.id id) os)) ≡ find (λ o. nat_eq o.id i) (o ∷ os)
    by true e next = let other : nat_eq o.id i ≡ false = ap (λ (z : ℕ). nat_eq z i) (eqb-true o.id id e) ∙ h in rw other refl
    by false e next = ap (λ (r : Option ObjectView). cond (nat_eq o.id i) (Some o) r) next

-- ---- the devices that are left

module _ (setup : Setup) (past : List Raw) (m : Raw) (e : Entry) (d : ℕ) (on : connected past ≡ true) (k : object past m.id ≡ Some e) (p : e.device ≡ Some d) (f : is_of_device e.interface ≡ false) (r : is_release (Some e) m ≡ true)
    (item_is : item past m ≡ None) (no_input : input past m ≡ None) where
  none : made past m ≡ None
  unfolding is_release
  none = shape.release_makes_nothing past m e.interface r

  device_same : (id : ℕ) → device_of (m ∷ past) id ≡ device_of past id
  device_same id = rw (version_fixed past m known.Seat on, version_fixed past m known.Device on) refl

  object_same : (id : ℕ) → eqb m.id id ≡ false → object (m ∷ past) id ≡ object past id
  object_same id away = object_interface_release past m e d id k p f r ∙ rw away refl

  left_is : (id : ℕ) → interfaces_left (m ∷ past) id ≡ filter (λ q. not (eqb m.id q)) (interfaces_left past id)
  left_is id = left_release past m e d id none k p f r

  -- what is released is no device
  was_same_at : (id : ℕ) (b : Bool) → eqb m.id id ≡ b → was_device (object (m ∷ past) id) ≡ was_device (object past id)
  unfolding was_device
  was_same_at id true t =
      let same : m.id ≡ id = eqb-true m.id id t in
      ap was_device (object_interface_release past m e d id k p f r ∙ ap (λ (b : Bool). cond b None (object past id)) t) ∙ sym (ap (λ (x : ℕ). was_device (object past x)) (sym same) ∙ ap was_device k ∙ f)
  was_same_at id false t = ap was_device (object_same id t)

  was_same : (id : ℕ) → was_device (object (m ∷ past) id) ≡ was_device (object past id)
  was_same id = was_same_at id (eqb m.id id) refl

  -- another device hasn't the interface
  not_of : (id : ℕ) → eqb d id ≡ false → list_any (nat_eq m.id) (interfaces_left past id) ≡ false
  not_of id far = not_true (list_any (nat_eq m.id) (interfaces_left past id)) (λ yes.
      let same : d ≡ id = some_is d id (sym p ∙ left_own past id m.id e yes k) in
      not_both (eqb d id) (eq-eqb d id same) far)

  kept_at : (id : ℕ) (v : DeviceView) (x : Bool) → eqb d id ≡ x → IsDevice setup past id v → IsDevice setup (m ∷ past) id (cond x (without_interface m.id v) v)
  kept_at id v true t h =
      let once : IsDistinct nat_eq (map (λ o. o.id) v.interfaces) = subst (IsDistinct nat_eq) (sym h.interfaces) (left_once past id) in
      let group_same : group id (each (slot setup) (m ∷ past)) ≡ group id (each (slot setup) past) = group_by setup past m id None item_is in
      record {
        there = was_same id ∙ h.there;
        device = h.device ∙ sym (device_same id);
        unnamed = h.unnamed;
        interfaces = ids_without m.id v.interfaces once ∙ ap (filter (λ q. not (eqb m.id q))) h.interfaces ∙ sym (left_is id);
        objects = λ i o q. by i o (eqb m.id i) refl once q;
        waiting = rw group_same h.waiting;
        touches = λ touch. h.touches touch ∙ sym (touch_none past m no_input id touch);
        once = h.once;
      }
    where
      by : (i : ℕ) (o : ObjectView) (b : Bool) → eqb m.id i ≡ b → IsDistinct nat_eq (map (λ o. o.id) v.interfaces) → find (λ x. nat_eq x.id i) (without_first (λ o. nat_eq o.id m.id) v.interfaces) ≡ Some o →
          option_map (object_of i) (object (m ∷ past) i) ≡ Some o
      by i o true t once q =
          let same : m.id ≡ i = eqb-true m.id i t in
          let gone_it : find (λ x. nat_eq x.id i) (without_first (λ o. nat_eq o.id m.id) v.interfaces) ≡ None = subst (λ (z : ℕ). find (λ x. nat_eq x.id z) (without_first (λ o. nat_eq o.id m.id) v.interfaces) ≡ None) same (gone_from m.id v.interfaces once) in
          absurd (none_some o (sym gone_it ∙ q))
      by i o false t once q = ap (option_map (object_of i)) (object_same i t) ∙ h.objects i o (sym (stays_in m.id i v.interfaces t) ∙ q)
  kept_at id v false t h =
      let group_same : group id (each (slot setup) (m ∷ past)) ≡ group id (each (slot setup) past) = group_by setup past m id None item_is in
      record {
        there = was_same id ∙ h.there;
        device = h.device ∙ sym (device_same id);
        unnamed = h.unnamed;
        interfaces = h.interfaces ∙ sym (left_is id ∙ none_left_out m.id (interfaces_left past id) (not_of id t));
        objects = λ i o q.
            let has : list_any (nat_eq i) (interfaces_left past id) ≡ true = sym (has_left setup past i id v h) ∙ any_some (λ (x : ObjectView). nat_eq x.id i) v.interfaces o q in
            let away : eqb m.id i ≡ false = not_true (eqb m.id i) (λ yes. not_both (list_any (nat_eq i) (interfaces_left past id)) has (ap (λ (z : ℕ). list_any (nat_eq z) (interfaces_left past id)) (sym (eqb-true m.id i yes)) ∙ not_of id t)) in
            ap (option_map (object_of i)) (object_same i away) ∙ h.objects i o q;
        waiting = rw group_same h.waiting;
        touches = λ touch. h.touches touch ∙ sym (touch_none past m no_input id touch);
        once = h.once;
      }

  held_after : (id : ℕ) (o : Option DeviceView) → IsHeldAt setup past id o → IsHeldAt setup (m ∷ past) id (option_map (changed_if d (without_interface m.id)) o)
  held_after id None h = was_same id ∙ h
  held_after id (Some v) h =
      let here : nat_eq v.device.proxy.id d ≡ eqb d id = same_id v.device.proxy.id d id (eqb d id) (ap (λ (x : DeviceKey). x.proxy.id) h.device) refl in
      rw here (kept_at id v (eqb d id) refl h)

  same_device : (b : Bool) (v : DeviceView) → (cond b (without_interface m.id v) v).device ≡ v.device
  same_device true v = refl
  same_device false v = refl

  pub devices_without : (ds : List DeviceView) → AreDevices setup past ds → AreDevices setup (m ∷ past) (map (changed_if d (without_interface m.id)) ds)
  devices_without ds h =
      let change : DeviceView → DeviceView = changed_if d (without_interface m.id) in
      are_devices setup (m ∷ past) (map change ds) (rises_mapped change (λ v. ap (λ (x : DeviceKey). x.proxy.id) (same_device (is_device d v) v)) ds 0 h.rise)
      (λ id. subst (IsHeldAt setup (m ∷ past) id) (sym (find_mapped (is_device id) change (λ v. ap (λ (x : DeviceKey). nat_eq x.proxy.id id) (same_device (is_device d v) v)) ds)) (held_after id (find (is_device id) ds) (h.each_one id)))

-- ---- the law

pub after_interface_release : (setup : Setup) (past : List Raw) (m : Raw) (readings : List ℕ) (c : ConverterView) (e : Entry) (time : ℕ) → IsHeld setup past readings c → object past m.id ≡ Some e → meaning e.interface m ≡ Some Releases →
    TookOne setup past m readings [] c (handled c m.id Releases time)
after_interface_release setup past m readings c e time h k w =
    let of_it = device_of_it setup past m e Releases k w refl in
    let d : ℕ = of_it.0 in
    let p : e.device ≡ Some d = of_it.1 in
    let f : is_of_device e.interface ≡ false = to_interface setup past m e Releases k w refl in
    let r : asks e.interface (codes "release") m ≡ true = releases_so setup past m e Releases k w in
    let gave : item past m ≡ None = item_so setup past m e Releases k w d p in
    let no_input : input past m ≡ None = input_so setup past m e Releases k w d p in
    let ds : List DeviceView = c.handle.devices in
    let there : There setup past d (find (is_device d) ds) = held_there setup past ds m.id d e h.devices k p in
    let owner : find (has_interface m.id) ds ≡ Some there.device = h.devices.owners m.id d e k p f ∙ there.found in
    let change : DeviceView → DeviceView = without_interface m.id in
    let changed : changed_first (has_interface m.id) change ds ≡ map (changed_if d change) ds = first_is (has_interface m.id) change ds 0 there.device h.devices.rise owner ∙ ap (λ (x : ℕ). map (changed_if x change) ds) there.id in
    let ids : m.id ∷ [] ≡ gone past m = sym (gone_one past m e k f (release_is m e r)) in
    let new : ConverterView = record c { handle = gives_up c.handle m.id (Some there.device) } in
    let took : TookOne setup past m readings [] c new = took_gone setup past m readings [] c new e d h k p r
    (ap (destroys_all (endpoint_of c.handle.ctx) c.handle.last_serial) ids)
    (ap (λ (n : List ℕ). record c.handle { ctx = new.handle.ctx; last_serial = serial_after c.handle.last_serial n; devices = new.handle.devices }) ids)
    (subst (AreDevices setup (m ∷ past)) (sym changed) (devices_without setup past m e d h.connected k p f (release_is m e r) gave no_input ds h.devices))
    (ap (λ (rs : List ℕ). length rs) (append-nil readings) ∙ h.frames ∙ sym (frames_none setup past m gave))
    (λ later. sym (ap (λ (x : List Request). c.queue ++ map (request_in_code past) x) (gives_none setup ((readings ++ []) ++ later) past m gave) ∙ append-nil c.queue)) in
    subst (λ (o : Option DeviceView). TookOne setup past m readings [] c (record c { handle = gives_up c.handle m.id o })) (sym owner) took
