-- Where the events go that answer a message.
use Rattle.std.proofs.Common.{◌≡◌, ℕ, ◌+◌, ◌%◌, ◌^◌, Bool, true, false, cond, ◌&&◌, ◌||◌, eqb, List, [], ◌∷◌, ◌++◌, Option, Some, None, refl, sym, ap, ◌∙◌}
use Rattle.std.proofs.Common.{eq-eqb, inl, inr}
use Rattle.std.specs.Prelude.{is_some, nat_eq}
use Rattle.std.specs.Option.{option_map, option_or}
use Rattle.std.specs.List.{filter_map, list_any}
use Rattle.ei_spec.specs.declared.interface.KnownInterface.{KnownInterface}
use Rattle.ei_spec.specs.Interface.{the_settled}
use Rattle.ei_spec.specs.Message.{Raw}
use Rattle.ei_types.specs.Capability.{capabilities, has_bit}
use Rattle.ei_session.specs.Setup.{Setup, connection_id, seat_id}
use Rattle.ei_session.specs.Handshake.{connected, is_the_finish, settled, version}
use Rattle.ei_session.specs.Replies.{settled_event, capability_event, settled_events, capability_events, finish_events}
use Rattle.ei_session.specs.Devices.{seat_is_open, made, interfaces_of, next_id, exhausts}
use Rattle.ei_session.specs.Objects.{Entry, new_device, handed_over, object, gone}
use Rattle.ei_session.specs.Serial.{serial}
use Rattle.ei_session.specs.Refusals.{synced}
use Rattle.ei_session.specs.Events.{invalid_object_event, interface_events, device_events, destroyed_events, callback_events, reply_by, reply, IsTarget}
use Rattle.ei_session.specs.Events.{AreTargets}
use Rattle.ei_session.proofs.Choices.{some_is, none_some, and_left}
use Rattle.ei_session.proofs.ObjectLaws.{made_is, object_new}
use Rattle.ei_session.proofs.ObjectShape.{object_seat, at_finish}
use Rattle.ei_session.proofs.FirstObjects.{object_first, object_handed, object_connection}
use Rattle.ei_session.proofs.GoneLaws.{goes}

module _ (before : List Raw) (m : Raw) where
  both : (xs ys : List Raw) → AreTargets before m xs → AreTargets before m ys → AreTargets before m (xs ++ ys)
  both [] ys a b = b
  both (x ∷ xs) ys a b = (a.0, both xs ys a.1 b)

  -- events that are chosen among some, all to one id
  chosen_targets : {A : Type 0} (f : A → Option Raw) (id : ℕ) → IsTarget before m id → ((a : A) (r : Raw) → f a ≡ Some r → r.id ≡ id) → (xs : List A) → AreTargets before m (filter_map f xs)
  chosen_targets f id t h [] = tt
  chosen_targets f id t h (x ∷ xs) = by (f x) refl (chosen_targets f id t h xs)
    where
      by : (o : Option Raw) → f x ≡ o → AreTargets before m (filter_map f xs) → AreTargets before m (filter_map f (x ∷ xs))
      by None e next = rw e next
      by (Some r) e next = rw e (rw (h x r e) t, next)

  destroyed_targets : (serial : ℕ) (ids : List ℕ) → ((id : ℕ) → list_any (nat_eq id) ids ≡ true → IsTarget before m id) → AreTargets before m (destroyed_events serial ids)
  destroyed_targets serial [] h = tt
  destroyed_targets serial (id ∷ ids) h = (h id (rw (eq-eqb id id refl) refl), destroyed_targets ((serial + 1) % 2 ^ 32) ids (λ x q. h x (rw q (by (nat_eq x id)))))
    where
      by : (b : Bool) → (b || true) ≡ true
      by true = refl
      by false = refl

  interface_targets : (versions : KnownInterface → ℕ) (device id : ℕ) (is : List KnownInterface) → IsTarget before m device → AreTargets before m (interface_events versions device id is)
  interface_targets versions device id [] t = tt
  interface_targets versions device id (i ∷ is) t = (t, interface_targets versions device (id + 1) is t)

  callback_targets : (o : Option ℕ) → synced before m ≡ o → AreTargets before m (callback_events o)
  callback_targets None e = tt
  callback_targets (Some c) e = (inl e, tt)

settled_to : (i : KnownInterface) (o : Option ℕ) (r : Raw) → option_map (settled_event 0 i) o ≡ Some r → r.id ≡ 0
settled_to i None r e = absurd (none_some r e)
settled_to i (Some v) r e = ap (λ (x : Raw). x.id) (sym (some_is (settled_event 0 i v) r e))

capability_to : (b : Bool) (c : ℕ × KnownInterface) (r : Raw) → cond b (Some (capability_event seat_id c)) None ≡ Some r → r.id ≡ seat_id
capability_to true c r e = ap (λ (x : Raw). x.id) (sym (some_is (capability_event seat_id c) r e))
capability_to false c r e = absurd (none_some r e)

finish_targets : (setup : Setup) (before : List Raw) (m : Raw) → is_the_finish before m ≡ true → AreTargets before m (finish_events setup before)
unfolding finish_events settled_events capability_events handed_over
finish_targets setup before m f =
    let off = (at_finish before m f).1 in
    let zero-there : IsTarget before m 0 = inr (inl (ap is_some (object_first before 0 off))) in
    let connection-there : IsTarget before m connection_id = inr (inr (ap is_some (object_handed before m connection_id f))) in
    let seat-there : IsTarget before m seat_id = inr (inr (ap is_some (object_handed before m seat_id f))) in
    both before m (settled_events 0 (settled before)) _ (chosen_targets before m (λ i. option_map (settled_event 0 i) (settled before i)) 0 zero-there (λ i r e. settled_to i (settled before i) r e) the_settled) (
      zero-there,
      (
        connection-there,
        both before m (capability_events seat_id setup.capabilities (λ i. is_some (settled before i))) _
            (chosen_targets before m (λ c. cond (has_bit setup.capabilities c.0 && is_some (settled before c.1)) (Some (capability_event seat_id c)) None) seat_id seat-there (λ c r e. capability_to (has_bit setup.capabilities c.0 && is_some (settled before c.1)) c r e) capabilities)
            (seat-there, tt),
      ),
    )

new_there : (before : List Raw) (d : ℕ) (is : List KnownInterface) (old : Option Entry) → is_some (option_or (new_device before d is d) old) ≡ true
unfolding new_device
new_there before d is old = rw (eq-eqb d d refl, new_device) refl

device_targets : (setup : Setup) (before : List Raw) (m : Raw) (mask serial : ℕ) → made before m ≡ Some mask → AreTargets before m (device_events (version before) (next_id before) (interfaces_of mask) serial)
unfolding device_events
device_targets setup before m mask serial h =
    let seat-there : IsTarget before m seat_id = inr (inl (object_seat before ∙ and_left (seat_is_open before) (eqb m.id seat_id) (made_is before m mask h).0)) in
    let device-there : IsTarget before m (next_id before) = inr (inr (ap is_some (object_new before m mask (next_id before) h) ∙ new_there before (next_id before) (interfaces_of mask) (object before (next_id before)))) in
    (seat-there, (device-there, both before m (interface_events (version before) (next_id before) (next_id before + 1) (interfaces_of mask)) _ (interface_targets before m (version before) (next_id before) (next_id before + 1) (interfaces_of mask) device-there) (device-there, (device-there, tt))))

reply_by_targets : (setup : Setup) (before : List Raw) (m : Raw) (mask : Option ℕ) (o : Option Entry) → made before m ≡ mask → AreTargets before m (reply_by setup before m mask o)
reply_by_targets setup before m (Some mask) o h = by (exhausts before m)
  where
    by : (b : Bool) → AreTargets before m (cond b [] (device_events (version before) (next_id before) (interfaces_of mask) (serial setup (m ∷ before))))
    by true = tt
    by false = device_targets setup before m mask (serial setup (m ∷ before)) h
reply_by_targets setup before m None None h = by (connected before) refl
  where
    by : (b : Bool) → connected before ≡ b → AreTargets before m (cond b (invalid_object_event (serial setup before) m.id ∷ []) [])
    by true on = (inr (inl (ap is_some (object_connection before) ∙ rw on refl)), tt)
    by false off = tt
reply_by_targets setup before m None (Some e) h =
    both before m (callback_events (synced before m)) _ (callback_targets before m (synced before m) refl) (destroyed_targets before m (serial setup before) (gone before m) (λ id q. inr (inl (goes before m id q).there)))

pub reply_targets : (setup : Setup) (before : List Raw) (m : Raw) → AreTargets before m (reply setup before m)
unfolding reply
reply_targets setup before m = by (is_the_finish before m) refl
  where
    by : (b : Bool) → is_the_finish before m ≡ b → AreTargets before m (cond b (finish_events setup before) (reply_by setup before m (made before m) (object before m.id)))
    by true f = finish_targets setup before m f
    by false f = reply_by_targets setup before m (made before m) (object before m.id) refl
