-- The keys of what a connection holds: who is found by them, and how they change with it.
use Rattle.std.proofs.Common.{◌≡◌, ℕ, Bool, true, List, [], ◌∷◌, ◌++◌, map, Option, Some, None, refl, sym, ap, subst, ◌∙◌}
use Rattle.std.specs.Prelude.{find, is_some, not}
use Rattle.std.specs.List.{filter}
use Rattle.std.specs.Option.{option_map}
use Rattle.std.proofs.lemmas.List.{map-append}
use Rattle.ei_spec.specs.Interface.{ObjectView}
use Rattle.ei_request.specs.Keys.{DeviceKey}
use Rattle.ei_request.specs.Held.{SeatView, DeviceView, is_seat, is_device, is_of_key, is_of_seat, gone_ids, without_first, changed_first}
use Rattle.ei_request.specs.Connection.{ConnectionView, Unchanged, holds_device}
use Rattle.ei_request.specs.Removing.{TellsGone, RemovesDevice, RemovesSeat, devices_left}
use Rattle.reis_eis.specs.declared.call_error.CallError.TheVariants as call_error
use Rattle.reis_eis.specs.Keys.{HasKeys, names_seat, names_device, names_device_of}
use Rattle.reis_eis.specs.Refusals.{on_seat, on_device}
use Rattle.reis_eis.specs.Acting.{RemovesDeviceAt, RemovesSeatAt}
use Rattle.reis_eis.proofs.Handled.{changed_keys}
use Rattle.reis_eis.proofs.Firsts.{find_of, without_of, filter_of, device_found, seat_found, by_key, without_key, changed_key}

none_from : {A B : Type 0} (f : A → B) (o : Option A) → option_map f o ≡ None → o ≡ None
none_from f None e = refl
none_from f (Some x) e = cc

-- what stands behind a value that was made of it
pub record IsOf {A B : Type 0} (f : A → B) (o : Option A) (k : B) : Type 0 where
  pub it : A
  pub found : o ≡ Some it
  pub is : f it ≡ k

some_from : {A B : Type 0} (f : A → B) (o : Option A) (k : B) → option_map f o ≡ Some k → IsOf f o k
some_from f None k e = cc
some_from f (Some x) k e = record { it = x; found = refl; is = cc }

-- keys stay where seats and devices do
pub keys_same : (old new : ConnectionView) (seats : List ObjectView) (devices : List DeviceKey) → new.seats ≡ old.seats → new.devices ≡ old.devices → HasKeys old seats devices → HasKeys new seats devices
keys_same old new seats devices s d h = record {
  seats_are = h.seats_are ∙ ap (λ (ss : List SeatView). map (λ s. s.proxy) ss) (sym s);
  devices_are = h.devices_are ∙ ap (λ (ds : List DeviceView). map (λ d. d.device) ds) (sym d);
}

pub keys_unchanged : (old new : ConnectionView) (seats : List ObjectView) (devices : List DeviceKey) → Unchanged old new → HasKeys old seats devices → HasKeys new seats devices
keys_unchanged old new seats devices same h =
    keys_same old new seats devices (ap (λ (c : ConnectionView). c.seats) same.rest) (ap (λ (c : ConnectionView). c.devices) same.rest) h

module _ (h : ConnectionView) (seats : List ObjectView) (devices : List DeviceKey) (keys : HasKeys h seats devices) (id : ℕ) where
  -- ---- a device

  seek_device : find (names_device id) devices ≡ option_map (λ (d : DeviceView). d.device) (find (is_device id) h.devices)
  seek_device = ap (λ (ds : List DeviceKey). find (names_device id) ds) keys.devices_are ∙ find_of (λ (d : DeviceView). d.device) (names_device id) h.devices

  pub no_device_found : find (names_device id) devices ≡ None → find (is_device id) h.devices ≡ None
  no_device_found e = none_from (λ (d : DeviceView). d.device) (find (is_device id) h.devices) (sym seek_device ∙ e)

  pub no_device : find (names_device id) devices ≡ None → on_device id h ≡ Some call_error.Gone
  no_device e = rw (no_device_found e) refl

  pub device_there : (k : DeviceKey) → find (names_device id) devices ≡ Some k → IsOf (λ (d : DeviceView). d.device) (find (is_device id) h.devices) k
  device_there k e = some_from (λ (d : DeviceView). d.device) (find (is_device id) h.devices) k (sym seek_device ∙ e)

  module _ (k : DeviceKey) (there : IsOf (λ (d : DeviceView). d.device) (find (is_device id) h.devices) k) where
    pub on_it : on_device id h ≡ None
    on_it = rw there.found refl

    pub id_is : k.proxy.id ≡ id
    id_is = ap (λ (x : DeviceKey). x.proxy.id) (sym there.is) ∙ device_found id h.devices there.it there.found

    pub key_found : find (is_of_key k) h.devices ≡ Some there.it
    key_found = ap (λ (x : DeviceKey). find (is_of_key x) h.devices) (sym there.is) ∙ by_key id h.devices there.it there.found

    pub key_held : holds_device h k ≡ true
    key_held = ap (λ (o : Option DeviceView). is_some o) key_found

    pub key_without : without_first (is_of_key k) h.devices ≡ without_first (is_device id) h.devices
    key_without = ap (λ (x : DeviceKey). without_first (is_of_key x) h.devices) (sym there.is) ∙ without_key id h.devices there.it there.found

    pub key_changed : (change : DeviceView → DeviceView) → changed_first (is_of_key k) change h.devices ≡ changed_first (is_device id) change h.devices
    key_changed change = ap (λ (x : DeviceKey). changed_first (is_of_key x) change h.devices) (sym there.is) ∙ changed_key id h.devices there.it there.found change

    pub removes_device : (new : ConnectionView) → RemovesDevice h k new → RemovesDeviceAt id h new
    removes_device new r =
        subst (λ (ds : List DeviceView). TellsGone h (gone_ids (find (is_device id) h.devices)) h.seats ds new) key_without
        (subst (λ (o : Option DeviceView). TellsGone h (gone_ids o) h.seats (without_first (is_of_key k) h.devices) new) (key_found ∙ sym there.found) r)

    pub keys_without : (new : ConnectionView) → RemovesDevice h k new → HasKeys new seats (without_first (names_device id) devices)
    keys_without new r = record {
      seats_are = keys.seats_are ∙ ap (λ (c : ConnectionView). map (λ s. s.proxy) c.seats) (sym r.rest);
      devices_are = ap (λ (ds : List DeviceKey). without_first (names_device id) ds) keys.devices_are ∙ without_of (λ (d : DeviceView). d.device) (names_device id) h.devices
          ∙ ap (λ (ds : List DeviceView). map (λ d. d.device) ds) (sym key_without) ∙ ap (λ (c : ConnectionView). map (λ d. d.device) c.devices) (sym r.rest);
    }

  -- ---- a seat

  seek_seat : find (names_seat id) seats ≡ option_map (λ (s : SeatView). s.proxy) (find (is_seat id) h.seats)
  seek_seat = ap (λ (ss : List ObjectView). find (names_seat id) ss) keys.seats_are ∙ find_of (λ (s : SeatView). s.proxy) (names_seat id) h.seats

  pub no_seat_found : find (names_seat id) seats ≡ None → find (is_seat id) h.seats ≡ None
  no_seat_found e = none_from (λ (s : SeatView). s.proxy) (find (is_seat id) h.seats) (sym seek_seat ∙ e)

  pub no_seat : find (names_seat id) seats ≡ None → on_seat id h ≡ Some call_error.Gone
  no_seat e = rw (no_seat_found e) refl

  pub seat_there : (s : ObjectView) → find (names_seat id) seats ≡ Some s → IsOf (λ (x : SeatView). x.proxy) (find (is_seat id) h.seats) s
  seat_there s e = some_from (λ (x : SeatView). x.proxy) (find (is_seat id) h.seats) s (sym seek_seat ∙ e)

  module _ (s : ObjectView) (there : IsOf (λ (x : SeatView). x.proxy) (find (is_seat id) h.seats) s) where
    pub on_the_seat : on_seat id h ≡ None
    on_the_seat = rw there.found refl

    pub seat_id_is : s.id ≡ id
    seat_id_is = ap (λ (x : ObjectView). x.id) (sym there.is) ∙ seat_found id h.seats there.it there.found

    pub removes_seat : (new : ConnectionView) → RemovesSeat h s.id new → RemovesSeatAt id h new
    removes_seat new r = subst (λ (n : ℕ). RemovesSeat h n new) seat_id_is r

    left_are : devices_left id h.devices (find (is_seat id) h.seats) ≡ filter (λ d. not (is_of_seat id d)) h.devices
    left_are = rw there.found refl

    pub keys_left : (new : ConnectionView) → RemovesSeat h s.id new → HasKeys new (without_first (names_seat id) seats) (filter (λ d. not (names_device_of id d)) devices)
    keys_left new removed =
        let r : RemovesSeat h id new = removes_seat new removed in
        record {
          seats_are = ap (λ (ss : List ObjectView). without_first (names_seat id) ss) keys.seats_are ∙ without_of (λ (x : SeatView). x.proxy) (names_seat id) h.seats
              ∙ ap (λ (c : ConnectionView). map (λ x. x.proxy) c.seats) (sym r.rest);
          devices_are = ap (λ (ds : List DeviceKey). filter (λ d. not (names_device_of id d)) ds) keys.devices_are ∙ filter_of (λ (d : DeviceView). d.device) (λ d. not (names_device_of id d)) h.devices
              ∙ ap (λ (ds : List DeviceView). map (λ d. d.device) ds) (sym left_are) ∙ ap (λ (c : ConnectionView). map (λ d. d.device) c.devices) (sym r.rest);
        }

-- devices that are changed keep their keys
pub keys_changed : (old : ConnectionView) (seats : List ObjectView) (devices : List DeviceKey) → HasKeys old seats devices → (new : ConnectionView) (test : DeviceView → Bool) (change : DeviceView → DeviceView) →
    ((d : DeviceView) → (change d).device ≡ d.device) → new.seats ≡ old.seats → new.devices ≡ changed_first test change old.devices → HasKeys new seats devices
keys_changed old seats devices h new test change same s d = record {
  seats_are = h.seats_are ∙ ap (λ (ss : List SeatView). map (λ x. x.proxy) ss) (sym s);
  devices_are = h.devices_are ∙ sym (changed_keys (λ (x : DeviceView). x.device) test change same old.devices) ∙ ap (λ (ds : List DeviceView). map (λ x. x.device) ds) (sym d);
}

-- ---- one more

pub keys_with_seat : (old new : ConnectionView) (seats : List ObjectView) (devices : List DeviceKey) (s : SeatView) → new.seats ≡ old.seats ++ s ∷ [] → new.devices ≡ old.devices → HasKeys old seats devices →
    HasKeys new (seats ++ s.proxy ∷ []) devices
keys_with_seat old new seats devices s more same h = record {
  seats_are = ap (λ (ss : List ObjectView). ss ++ s.proxy ∷ []) h.seats_are ∙ sym (map-append (λ (x : SeatView). x.proxy) old.seats (s ∷ [])) ∙ ap (λ (ss : List SeatView). map (λ x. x.proxy) ss) (sym more);
  devices_are = h.devices_are ∙ ap (λ (ds : List DeviceView). map (λ d. d.device) ds) (sym same);
}

pub keys_with_device : (old new : ConnectionView) (seats : List ObjectView) (devices : List DeviceKey) (d : DeviceView) → new.seats ≡ old.seats → new.devices ≡ old.devices ++ d ∷ [] → HasKeys old seats devices →
    HasKeys new seats (devices ++ d.device ∷ [])
keys_with_device old new seats devices d same more h = record {
  seats_are = h.seats_are ∙ ap (λ (ss : List SeatView). map (λ x. x.proxy) ss) (sym same);
  devices_are = ap (λ (ds : List DeviceKey). ds ++ d.device ∷ []) h.devices_are ∙ sym (map-append (λ (x : DeviceView). x.device) old.devices (d ∷ [])) ∙ ap (λ (ds : List DeviceView). map (λ x. x.device) ds) (sym more);
}
