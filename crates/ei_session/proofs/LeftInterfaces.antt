-- The interfaces that a device has left are just the objects of it, but for itself.
use Rattle.std.proofs.Common.{◌≡◌, ◌≢◌, ℕ, zero, suc, ◌+◌, ◌-◌, ◌<◌, ◌≤◌, Bool, true, false, cond, eqb, ltb, List, [], ◌∷◌, length, Option, Some, None, refl}
use Rattle.std.proofs.Common.{sym, ap, ◌∙◌, arith, inl, inr}
use Rattle.std.specs.Prelude.{is_some, slice_get, filter, nat_eq}
use Rattle.std.specs.List.{list_any, range_with_len}
use Rattle.std.proofs.lemmas.Bool.{eqb-true}
use Rattle.std.proofs.lemmas.Bool.Decides.{nat_tests}
use Rattle.std.proofs.lemmas.Option.{slice_get_within}
use Rattle.ei_spec.specs.declared.interface.KnownInterface.{KnownInterface}
use Rattle.ei_spec.specs.Message.{Raw}
use Rattle.ei_spec.specs.History.{last_said}
use Rattle.ei_session.specs.Devices.{made, next_id, interfaces_of, device_interfaces}
use Rattle.ei_session.specs.Objects.{Entry, interface_entry, new_device, given, introduces, removes, object, interfaces_left}
use Rattle.ei_session.proofs.Choices.{chosen, some_is, none_some, or_true}
use Rattle.ei_session.proofs.ObjectLaws.{changed, object_is_introduced, object_at, no_device, by_making}
use Rattle.ei_session.proofs.ObjectShape as shape
use Rattle.ei_session.proofs.DeviceRange.{interfaces_kept, interfaces_new, interfaces_other, range_owner}
use Rattle.ei_session.proofs.GoneLaws.{member_range, some_entry}

pub record Within (past : List Raw) (d id : ℕ) : Type 0 where
  pub low : d ≤ id
  pub high : id ≤ d + length (device_interfaces past d)

of_entry : (past : List Raw) (device d id : ℕ) (e : Entry) (is : List KnownInterface) (o : Option KnownInterface) → slice_get is (id - device - 1) ≡ o → interface_entry past device o ≡ Some e → e.device ≡ Some d → (device ≡ d) × (id - device - 1 < length is)
of_entry past device d id e is None g h p = absurd (none_some e h)
of_entry past device d id e is (Some i) g h p = (some_is device d cc, slice_get_within is (id - device - 1) i g)

pub new_range : (past : List Raw) (device d id : ℕ) (e : Entry) (is : List KnownInterface) → new_device past device is id ≡ Some e → e.device ≡ Some d → (device ≡ d) × (device ≤ id) × (id ≤ device + length is)
unfolding new_device
new_range past device d id e is h p =
    elim (chosen (eqb id device) _ _ _ h) [
      | inl a ↦ (some_is device d (let q = a.1 in cc), omega (arith, eqb-true id device a.0), omega (arith, eqb-true id device a.0))
      | inr b ↦ elim (chosen (ltb device id) _ _ _ b.1) [
        | inl a ↦ let w = of_entry past device d id e is (slice_get is (id - device - 1)) refl a.1 p in
            let above : device < id = grind (arith, nat_tests, a.0) in (w.0, omega arith, omega (arith, w.1))
        | inr c ↦ absurd (none_some e c.1)
      ]
    ]

made_range : (past : List Raw) (m : Raw) (d id : ℕ) (e : Entry) (o : Option ℕ) → made past m ≡ o → given past o id ≡ Some e → e.device ≡ Some d → Within (m ∷ past) d id
made_range past m d id e None n h p = absurd (none_some e h)
made_range past m d id e (Some mask) n h p =
    let w = new_range past (next_id past) d id e (interfaces_of mask) h p in
    let same : length (device_interfaces (m ∷ past) d) ≡ length (interfaces_of mask) = ap (λ (x : ℕ). length (device_interfaces (m ∷ past) x)) (sym w.0) ∙ ap (λ (x : List KnownInterface). length x) (interfaces_new past m mask n) in
    record { low = omega (arith, w.0, w.1); high = omega (arith, w.0, w.2, same) }

was_there : (b : Bool) (o : Option Entry) (e : Entry) → changed None b o ≡ Some e → o ≡ Some e
was_there true o e h = absurd (none_some e h)
was_there false o e h = h

kept_range : (past : List Raw) (m : Raw) (d id : ℕ) (e : Entry) (o : Option ℕ) → made past m ≡ o → object past id ≡ Some e → e.device ≡ Some d → Within past d id → Within (m ∷ past) d id
kept_range past m d id e None n k p w =
    let same = ap (λ (x : List KnownInterface). length x) (interfaces_kept past m d n) in
    record { low = w.low; high = omega (arith, same, w.high) }
kept_range past m d id e (Some mask) n k p w =
    let own = shape.object_owner past id e d k p in
    let below : d < next_id past = shape.object_below past d own.entry d own.is own.own in
    let other : eqb (next_id past) d ≡ false = grind (arith, nat_tests) in
    let same = ap (λ (x : List KnownInterface). length x) (interfaces_other past m mask d n other) in
    record { low = w.low; high = omega (arith, same, w.high) }

range_step : (past : List Raw) (m : Raw) (d id : ℕ) (e : Entry) (i : Option Entry) → introduces past m id ≡ i → object (m ∷ past) id ≡ Some e → e.device ≡ Some d → (object past id ≡ Some e → Within past d id) → Within (m ∷ past) d id
range_step past m d id e (Some x) q k p next =
    let is : Some x ≡ Some e = sym (object_at past m id (Some x) (removes past m id) q refl) ∙ k in
    made_range past m d id e (made past m) refl (by_making past m id e d (q ∙ is) p).1 p
range_step past m d id e None q k p next =
    let old : object past id ≡ Some e = was_there (removes past m id) (object past id) e (sym (object_at past m id None (removes past m id) q refl) ∙ k) in
    kept_range past m d id e (made past m) refl old p (next old)

pub in_range : (past : List Raw) (id : ℕ) (e : Entry) (d : ℕ) → object past id ≡ Some e → e.device ≡ Some d → Within past d id
unfolding object last_said
in_range [] id e d k p =
    elim (chosen (eqb id 0) _ _ _ k) [
      | inl x ↦ absurd (no_device _ e d refl x.1 p)
      | inr y ↦ absurd (none_some e y.1)
    ]
in_range (m ∷ past) id e d k p = range_step past m d id e (introduces past m id) refl k p (λ old. in_range past id e d old p)

-- ---- membership

in_either : (b : Bool) (id a : ℕ) (xs : List ℕ) → list_any (nat_eq id) xs ≡ true → list_any (nat_eq id) (cond b (a ∷ xs) xs) ≡ true
in_either true id a xs h = rw h (or_true (nat_eq id a))
in_either false id a xs h = h

in_filter_by : (test : ℕ → Bool) (id a : ℕ) (xs : List ℕ) (b : Bool) → eqb id a ≡ b → test id ≡ true → (id ≢ a → list_any (nat_eq id) xs ≡ true) → list_any (nat_eq id) (cond (test a) (a ∷ xs) xs) ≡ true
in_filter_by test id a xs true e t rest = let here : test a ≡ true = ap test (sym (eqb-true id a e)) ∙ t in rw (here, e) refl
in_filter_by test id a xs false e t rest = in_either (test a) id a xs (rest (λ same. grind (arith, nat_tests)))

pub in_filter : (test : ℕ → Bool) (id a n : ℕ) → test id ≡ true → a ≤ id → id < a + n → list_any (nat_eq id) (filter test (range_with_len a n)) ≡ true
in_filter test id a zero t low high = absurd (omega (arith, high))
in_filter test id a (suc n) t low high = in_filter_by test id a (filter test (range_with_len (a + 1) n)) (eqb id a) refl t (λ far. in_filter test id (a + 1) n t (grind (arith, far, low)) (omega (arith, high)))

-- what is of a device and isn't the device is among the interfaces that it has left
pub is_left : (past : List Raw) (id d : ℕ) (e : Entry) → object past id ≡ Some e → e.device ≡ Some d → id ≢ d → list_any (nat_eq id) (interfaces_left past d) ≡ true
unfolding interfaces_left
is_left past id d e k p far =
    let w = in_range past id e d k p in
    let above : d < id = grind (arith, far, w.low) in
    in_filter (λ x. is_some (object past x)) id (d + 1) (length (device_interfaces past d)) (ap is_some k) (omega arith) (omega (arith, w.high))

-- ---- and what is left is there

-- what is left is there, behind the device and of it
pub record Left (past : List Raw) (d id : ℕ) : Type 0 where
  pub entry : Entry
  pub is : object past id ≡ Some entry
  pub own : entry.device ≡ Some d
  pub above : d < id

pub left_there : (past : List Raw) (d id : ℕ) → list_any (nat_eq id) (interfaces_left past d) ≡ true → Left past d id
unfolding interfaces_left
left_there past d id h =
    let w = member_range (λ x. is_some (object past x)) id (d + 1) (length (device_interfaces past d)) h in
    let e = some_entry (object past id) w.0 in
    record { entry = e.0; is = e.1; own = range_owner past d id e.0 (omega (arith, w.1)) (omega (arith, w.2)) (object_is_introduced past id e.0 e.1); above = omega (arith, w.1) }

pub left_own : (past : List Raw) (d id : ℕ) (e : Entry) → list_any (nat_eq id) (interfaces_left past d) ≡ true → object past id ≡ Some e → e.device ≡ Some d
left_own past d id e h k =
    let w = left_there past d id h in
    let same : w.entry ≡ e = some_is w.entry e (sym w.is ∙ k) in
    ap (λ (x : Entry). x.device) (sym same) ∙ w.own
