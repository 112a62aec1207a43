-- The devices that are held after one more was made.
use Rattle.std.proofs.Common.{◌≡◌, ◌≢◌, ℕ, ◌+◌, ◌<◌, ◌≤◌, Bool, true, false, eqb, List, [], ◌∷◌, ◌++◌, length, Option, Some, None, refl, sym, ap, ◌∙◌}
use Rattle.std.proofs.Common.{subst, arith, eq-eqb}
use Rattle.std.specs.Prelude.{find, nat_eq, slice_get}
use Rattle.std.specs.Option.{option_map, option_or}
use Rattle.std.specs.List.{AllByRecursion, IsDistinct, range_with_len}
use Rattle.std.proofs.lemmas.Bool.{eqb-true}
use Rattle.std.proofs.lemmas.Bool.Decides.{nat_tests}
use Rattle.std.proofs.lemmas.List.Folds.{find-append}
use Rattle.ei_spec.specs.declared.interface.KnownInterface.{KnownInterface}
use Rattle.ei_spec.specs.declared.interface.KnownInterface.TheVariants as known
use Rattle.ei_spec.specs.Interface.{Known, ObjectView}
use Rattle.ei_spec.specs.Message.{Raw}
use Rattle.ei_spec.specs.History.{each}
use Rattle.ei_spec.specs.Groups.{Free, group}
use Rattle.ei_backend.specs.Endpoint.{Endpoint}
use Rattle.ei_session.specs.Setup.{Setup}
use Rattle.ei_session.specs.Handshake.{connected, version}
use Rattle.ei_session.specs.SettledMap.{settled_map}
use Rattle.ei_session.specs.Devices.{made, next_id, interfaces_of}
use Rattle.ei_session.specs.Objects.{Entry, object, new_device as introduced_device, was_device, is_device as is_of_device}
use Rattle.ei_session.specs.Touches.{input, is_down}
use Rattle.ei_session.specs.Requests.{Plain, item, slot}
use Rattle.ei_session.specs.Kept.{KeepsVersions}
use Rattle.ei_session.proofs.Choices.{not_both}
use Rattle.ei_session.proofs.DeviceRange.{left_new, left_other}
use Rattle.ei_session.proofs.FreshDevices.{fresh_group, fresh_down}
use Rattle.ei_session.proofs.GoneLaws.{object_device, all_below}
use Rattle.ei_session.proofs.KeptByRequests.{fixed_versions}
use Rattle.ei_session.proofs.LeftInterfaces.{left_there, new_range}
use Rattle.ei_session.proofs.NewObjects.{new_device_is, new_interface_is, older_same}
use Rattle.ei_session.proofs.ObjectLaws.{object_new}
use Rattle.ei_session.proofs.WaitingLaws.{touch_none}
use Rattle.ei_request.specs.Held.{DeviceView, is_device}
use Rattle.ei_request.specs.Connection.{version_in}
use Rattle.ei_request.specs.Making.{new_device, objects_of}
use Rattle.ei_standing.specs.Standing.{object_of, seat_of, device_of, IsDevice, IsHeldAt, RiseFrom, AreDevices}
use Rattle.ei_request.proofs.FirstOnes.{any_some}
use Rattle.ei_standing.proofs.HeldPlainly.{has_left, all_held, are_devices}
use Rattle.ei_standing.proofs.MadeEndpoint.{ids_of, found_placed, objects_alike, version_same, none_bare}
use Rattle.ei_standing.proofs.RisingDevices.{all_of}
use Rattle.ei_standing.proofs.TookQuietly.{free_group}

-- ---- lists

rise_more : (ds : List DeviceView) (from : ℕ) (v : DeviceView) → RiseFrom from ds → AllByRecursion (λ d. d.device.proxy.id < v.device.proxy.id) ds → from ≤ v.device.proxy.id → RiseFrom from (ds ++ v ∷ [])
rise_more [] from v rise below le = (le, tt)
rise_more (x ∷ ds) from v rise below le = (rise.0, rise_more ds (x.device.proxy.id + 1) v rise.1 below.1 (omega (arith, below.0)))

or_none : (o : Option DeviceView) → option_or o None ≡ o
or_none None = refl
or_none (Some v) = refl

kind_is : (k : KnownInterface) → is_of_device k ≡ true → k ≡ known.Device
kind_is known.Device h = refl
kind_is k h = absurd cc

was_some : (o : Option Entry) → was_device o ≡ true → (e : Entry) × (o ≡ Some e)
unfolding was_device
was_some None h = absurd cc
was_some (Some e) h = (e, refl)

no_touch : IsDistinct nat_eq []
unfolding IsDistinct
no_touch = tt

-- ---- the new device

module _ (setup : Setup) (past : List Raw) (m : Raw) (mask : ℕ) (y : Plain) (on : connected past ≡ true) (mk : made past m ≡ Some mask) (free : item past m ≡ Some (Free y)) (no_input : input past m ≡ None)
    (e : Endpoint) (server : e.client ≡ false) (next : e.next_own ≡ next_id past) where
  abbrev here : ℕ
  here = next_id past

  abbrev is : List KnownInterface
  is = interfaces_of mask

  abbrev view : DeviceView
  view = new_device e (settled_map past) (seat_of past) None is

  versions : KeepsVersions past m
  versions = fixed_versions past m on

  device_same : (id : ℕ) → device_of (m ∷ past) id ≡ device_of past id
  device_same id = rw (versions.same_version known.Seat, versions.same_version known.Device) refl

  group_same : (id : ℕ) → group id (each (slot setup) (m ∷ past)) ≡ group id (each (slot setup) past)
  group_same id = free_group setup past m (Some y) free id

  down_same : (id touch : ℕ) → is_down (m ∷ past) id touch ≡ is_down past id touch
  down_same id touch = touch_none past m no_input id touch

  key_is : view.device ≡ device_of past here
  key_is =
      ap (λ (n : ℕ). record { seat = seat_of past; proxy = record { id = n; interface = Known known.Device; version = version_in (settled_map past) known.Device; client_side = e.client } }) next
      ∙ ap (λ (v : ℕ). record { seat = seat_of past; proxy = record { id = here; interface = Known known.Device; version = v; client_side = e.client } }) (version_same past known.Device refl)
      ∙ ap (λ (b : Bool). record { seat = seat_of past; proxy = record { id = here; interface = Known known.Device; version = version past known.Device; client_side = b } }) server

  -- its interfaces, with the versions of the history
  abbrev behind : Endpoint
  behind = record e { next_own = e.next_own + 1 }

  objects_are : view.interfaces ≡ objects_of behind (version past) is
  objects_are = objects_alike (version_in (settled_map past)) (version past) (version_same past) behind is (none_bare mask)

  object_at : (i place : ℕ) (k : KnownInterface) → slice_get is place ≡ Some k → i ≡ here + 1 + place →
      option_map (object_of i) (object (m ∷ past) i) ≡ Some (record { id = i; interface = Known k; version = version past k; client_side = e.client })
  object_at i place k there at =
      let new : object (m ∷ past) i ≡ Some (record { interface = k; version = version past k; device = Some here }) = ap (object (m ∷ past)) at ∙ new_interface_is past m mask mk place k there in
      ap (option_map (object_of i)) new ∙ ap (λ (b : Bool). Some (record { id = i; interface = Known k; version = version past k; client_side = b })) (sym server)

  objects_there : (i : ℕ) (o : ObjectView) → find (λ x. nat_eq x.id i) view.interfaces ≡ Some o → option_map (object_of i) (object (m ∷ past) i) ≡ Some o
  objects_there i o q =
      let p = found_placed (version past) behind is i o (sym (ap (find (λ x. nat_eq x.id i)) objects_are) ∙ q) in
      object_at i p.place p.interface p.there (omega (arith, p.id_is, next)) ∙ ap (λ (x : ObjectView). Some x) (sym p.is_it)

  was_one : (o : Option Entry) (v : ℕ) → o ≡ Some (record { interface = known.Device; version = v; device = Some here }) → was_device o ≡ true
  unfolding was_device
  was_one o v q = ap was_device q

  new_held : IsDevice setup (m ∷ past) here view
  new_held = record {
    there = was_one (object (m ∷ past) here) (version past known.Device) (new_device_is past m mask mk);
    device = key_is ∙ sym (device_same here);
    unnamed = refl;
    interfaces = ids_of (version_in (settled_map past)) behind is ∙ ap (λ (n : ℕ). range_with_len (n + 1) (length is)) next ∙ sym (left_new past m mask mk);
    objects = objects_there;
    waiting = sym ((group_same here ∙ fresh_group setup past here (omega arith)));
    touches = λ touch. sym (down_same here touch ∙ fresh_down past here touch (omega arith));
    once = no_touch;
  }

  -- ---- the others

  -- the id of a held device is an old one
  old : (id : ℕ) (v : DeviceView) → IsDevice setup past id v → id < here
  old id v h = let s = was_some (object past id) h.there in all_below past id s.0 s.1

  old_same : (id : ℕ) → id < here → object (m ∷ past) id ≡ object past id
  old_same id low = older_same past m mask mk id low

  fresh_at : (id : ℕ) (o : Option DeviceView) → here ≤ id → IsHeldAt setup past id o → o ≡ None
  fresh_at id None le h = refl
  fresh_at id (Some v) le h = absurd (omega (arith, old id v h, le))

  -- no other new object is a device
  kind_at : (id : ℕ) (x : Entry) (new : Option Entry) → introduced_device past here is id ≡ new → option_or new (object past id) ≡ Some x → x.device ≡ Some id → id ≢ here → object past id ≡ Some x
  kind_at id x None q h p far = h
  kind_at id x (Some z) q h p far = absurd (let same : z ≡ x = cc in far (sym (new_range past here id id x is (q ∙ ap Some same) p).0))

  plain_kind : (id : ℕ) (x : Entry) (b : Bool) → is_of_device x.interface ≡ b → object (m ∷ past) id ≡ Some x → id ≢ here → was_device (object past id) ≡ false → is_of_device x.interface ≡ false
  unfolding was_device
  plain_kind id x false t q far w = t
  plain_kind id x true t q far w =
      let k : x.interface ≡ known.Device = kind_is x.interface t in
      let there : object past id ≡ Some x = kind_at id x (introduced_device past here is id) refl (sym (object_new past m mask id mk) ∙ q) (object_device (m ∷ past) id x q k) far in
      absurd (not_both (was_device (object past id)) (ap was_device there ∙ t) w)

  not_device : (id : ℕ) (o : Option Entry) → object (m ∷ past) id ≡ o → id ≢ here → was_device (object past id) ≡ false → was_device o ≡ false
  unfolding was_device
  not_device id None q far w = refl
  not_device id (Some x) q far w = plain_kind id x (is_of_device x.interface) refl q far w

  still_there : (id : ℕ) (v : DeviceView) → IsDevice setup past id v → (i : ℕ) (o : ObjectView) → find (λ x. nat_eq x.id i) v.interfaces ≡ Some o → option_map (object_of i) (object (m ∷ past) i) ≡ Some o
  still_there id v h i o q =
      let left = left_there past id i (sym (has_left setup past i id v h) ∙ any_some (λ (x : ObjectView). nat_eq x.id i) v.interfaces o q) in
      ap (option_map (object_of i)) (old_same i (all_below past i left.entry left.is)) ∙ h.objects i o q

  held_same : (id : ℕ) (v : DeviceView) → IsDevice setup past id v → IsDevice setup (m ∷ past) id v
  held_same id v h = record {
    there = ap was_device (old_same id (old id v h)) ∙ h.there;
    device = h.device ∙ sym (device_same id);
    unnamed = h.unnamed;
    interfaces = h.interfaces ∙ sym (left_other past m mask id mk (λ same. omega (arith, old id v h, same)));
    objects = still_there id v h;
    waiting = h.waiting ∙ sym (group_same id);
    touches = λ touch. h.touches touch ∙ sym (down_same id touch);
    once = h.once;
  }

  kept_at : (id : ℕ) (o : Option DeviceView) → id ≢ here → IsHeldAt setup past id o → IsHeldAt setup (m ∷ past) id o
  kept_at id None far h = not_device id (object (m ∷ past) id) refl far h
  kept_at id (Some v) far h = held_same id v h

  own : view.device.proxy.id ≡ here
  own = next

  mine : (id : ℕ) (b : Bool) → eqb id here ≡ b → is_device id view ≡ b
  mine id true t = let o = next in grind (arith, nat_tests, o)
  mine id false t = let o = next in grind (arith, nat_tests, o)

  each_at : (ds : List DeviceView) (id : ℕ) (b : Bool) → AreDevices setup past ds → eqb id here ≡ b → IsHeldAt setup (m ∷ past) id (find (is_device id) (ds ++ view ∷ []))
  each_at ds id true h t =
      let same : id ≡ here = eqb-true id here t in
      let none : find (is_device id) ds ≡ None = fresh_at id (find (is_device id) ds) (omega (arith, same)) (h.each_one id) in
      let found : find (is_device id) (ds ++ view ∷ []) ≡ Some view = find-append (is_device id) ds (view ∷ []) ∙ rw (none, mine id true t) refl in
      rw found (subst (λ (n : ℕ). IsDevice setup (m ∷ past) n view) (sym same) new_held)
  each_at ds id false h t =
      let far : id ≢ here = λ same. not_both (eqb id here) (eq-eqb id here same) t in
      let found : find (is_device id) (ds ++ view ∷ []) ≡ find (is_device id) ds = find-append (is_device id) ds (view ∷ []) ∙ rw (mine id false t) (or_none (find (is_device id) ds)) in
      rw found (kept_at id (find (is_device id) ds) far (h.each_one id))

  pub one_device_more : (ds : List DeviceView) → AreDevices setup past ds → AreDevices setup (m ∷ past) (ds ++ view ∷ [])
  one_device_more ds h =
      let below = all_of (λ v. IsDevice setup past v.device.proxy.id v) (λ v. v.device.proxy.id < view.device.proxy.id) (λ v i. omega (arith, next, old v.device.proxy.id v i)) ds (all_held setup past ds h.rise h.each_one) in
      are_devices setup (m ∷ past) (ds ++ view ∷ []) (rise_more ds 0 view h.rise below (omega arith)) (λ id. each_at ds id (eqb id here) h refl)
