-- What goes, goes once, and by a row of its interface.
use Rattle.std.proofs.Common.{◌≡◌, ℕ, zero, suc, ◌+◌, ◌-◌, Bool, true, false, cond, not, eqb, ltb, List, [], ◌∷◌, ◌++◌, length, Option, Some, None, refl, sym}
use Rattle.std.proofs.Common.{ap, ◌∙◌, arith, inl, inr}
use Rattle.std.specs.Prelude.{is_some, nat_eq, slice_get, codes}
use Rattle.std.specs.List.{filter, list_any, range_with_len}
use Rattle.std.proofs.lemmas.List.Folds.{list_any-append}
use Rattle.ei_spec.specs.declared.interface.KnownInterface.{KnownInterface}
use Rattle.ei_spec.specs.declared.interface.KnownInterface.TheVariants as known
use Rattle.ei_spec.specs.Message.{Raw}
use Rattle.ei_spec.specs.History.{last_said}
use Rattle.ei_types.specs.Capability.{capabilities}
use Rattle.ei_session.specs.Asked.{asked, asks}
use Rattle.ei_session.specs.Devices.{interfaces_of, made, next_id, device_interfaces}
use Rattle.ei_session.specs.Objects.{Entry, interface_entry, new_device, given, introduces, introduced, is_release, object, interfaces_left, going, gone_with}
use Rattle.ei_session.specs.Objects.{gone}
use Rattle.ei_session.proofs.Choices.{not_true, turned, chosen, some_is, none_some, or_none}
use Rattle.ei_session.proofs.ObjectLaws.{object_is_introduced, introduced_now, introduced_before, by_making, no_device}
use Rattle.ei_session.proofs.DeviceRange.{range_owner}
use Rattle.ei_session.proofs.GoneLaws.{member_range, going_cases}
use Rattle.ei_session.proofs.MaskLaws.{masked_none, place_none}
use Rattle.ei_session.proofs.EventRows.{is_mortal}
use Rattle.ei_session.proofs.Telling.{Differ}

-- ---- no id goes twice

differ_range : (p : ℕ → Bool) (a n : ℕ) → Differ (filter p (range_with_len a n))
differ_range p a zero = tt
differ_range p a (suc n) = by (p a) refl (differ_range p (a + 1) n)
  where
    by : (b : Bool) → p a ≡ b → Differ (filter p (range_with_len (a + 1) n)) → Differ (filter p (range_with_len a (suc n)))
    by true e next = rw e (not_true _ (λ h. let w = member_range p a (a + 1) n h in omega (arith, w.1)), next)
    by false e next = rw e next

last_apart : (x y : ℕ) (ys : List ℕ) → list_any (nat_eq y) ys ≡ false → nat_eq x y ≡ false → list_any (nat_eq y) (ys ++ (x ∷ [])) ≡ false
last_apart x y ys n e = list_any-append (nat_eq y) ys (x ∷ []) ∙ rw (n, turned y x, e) refl

differ_last : (xs : List ℕ) (x : ℕ) → Differ xs → list_any (nat_eq x) xs ≡ false → Differ (xs ++ (x ∷ []))
differ_last [] x d n = (refl, tt)
differ_last (y ∷ ys) x d n = let two = or_none (nat_eq x y) (list_any (nat_eq x) ys) n in (last_apart x y ys d.0 two.0, differ_last ys x d.1 two.1)

differ_going : (before : List Raw) (id : ℕ) (k : KnownInterface) → Differ (going before id k)
unfolding interfaces_left
differ_going before id known.Device =
    differ_last (interfaces_left before id) id (differ_range (λ x. is_some (object before x)) (id + 1) (length (device_interfaces before id)))
    (not_true _ (λ h. let w = member_range (λ x. is_some (object before x)) id (id + 1) (length (device_interfaces before id)) h in omega (arith, w.1)))
differ_going before id k = (refl, tt)

differ_with : (before : List Raw) (m : Raw) (o : Option Entry) → Differ (gone_with before m o)
differ_with before m None = tt
differ_with before m (Some e) = by (is_release (Some e) m)
  where
    by : (b : Bool) → Differ (cond b (going before m.id e.interface) [])
    by true = differ_going before m.id e.interface
    by false = tt

pub gone_differ : (before : List Raw) (m : Raw) → Differ (gone before m)
unfolding gone
gone_differ before m = differ_with before m (object before m.id)

-- ---- what is of a device may go

abbrev no_mortal : KnownInterface → Bool
no_mortal k = not (is_mortal k)

mortal_by : (k : KnownInterface) → no_mortal k ≡ false → is_mortal k ≡ true
mortal_by k h = by (is_mortal k) h
  where
    by : (b : Bool) → not b ≡ false → b ≡ true
    by true e = refl
    by false e = absurd cc

mask_mortal : (mask : ℕ) → list_any no_mortal (interfaces_of mask) ≡ false
unfolding interfaces_of
mask_mortal mask = masked_none no_mortal mask capabilities refl

same_mortal : (x e : Entry) → Some x ≡ Some e → is_mortal x.interface ≡ true → is_mortal e.interface ≡ true
same_mortal x e h m = ap (λ (y : Entry). is_mortal y.interface) (sym (some_is x e h)) ∙ m

entry_mortal : (before : List Raw) (device : ℕ) (is : List KnownInterface) (k : ℕ) (o : Option KnownInterface) (e : Entry) → list_any no_mortal is ≡ false → slice_get is k ≡ o → interface_entry before device o ≡ Some e → is_mortal e.interface ≡ true
entry_mortal before device is k None e h q p = absurd (none_some e p)
entry_mortal before device is k (Some i) e h q p = same_mortal _ e p (mortal_by i (place_none no_mortal is k i h q))

new_mortal : (before : List Raw) (device : ℕ) (is : List KnownInterface) (id : ℕ) (e : Entry) → list_any no_mortal is ≡ false → new_device before device is id ≡ Some e → is_mortal e.interface ≡ true
unfolding new_device
new_mortal before device is id e none h =
    elim (chosen (eqb id device) _ _ _ h) [
      | inl a ↦ same_mortal _ e a.1 refl
      | inr b ↦ elim (chosen (ltb device id) _ _ _ b.1) [
        | inl c ↦ entry_mortal before device is (id - device - 1) (slice_get is (id - device - 1)) e none refl c.1
        | inr x ↦ absurd (none_some e x.1)
      ]
    ]

given_mortal : (before : List Raw) (mask : Option ℕ) (id : ℕ) (e : Entry) → given before mask id ≡ Some e → is_mortal e.interface ≡ true
given_mortal before None id e h = absurd (none_some e h)
given_mortal before (Some mask) id e h = new_mortal before (next_id before) (interfaces_of mask) id e (mask_mortal mask) h

mortal_at : (before : List Raw) (m : Raw) (id : ℕ) (e : Entry) (d : ℕ) (o : Option Entry) → (introduced before id ≡ Some e → is_mortal e.interface ≡ true) → introduces before m id ≡ o → introduced (m ∷ before) id ≡ Some e → e.device ≡ Some d → is_mortal e.interface ≡ true
mortal_at before m id e d (Some x) next q h p = given_mortal before (made before m) id e (by_making before m id e d (q ∙ sym (introduced_now before m id x q) ∙ h) p).1
mortal_at before m id e d None next q h p = next (sym (introduced_before before m id q) ∙ h)

owned_mortal : (before : List Raw) (id : ℕ) (e : Entry) (d : ℕ) → introduced before id ≡ Some e → e.device ≡ Some d → is_mortal e.interface ≡ true
unfolding introduced last_said
owned_mortal [] id e d h p =
    elim (chosen (eqb id 0) _ _ _ h) [
      | inl x ↦ absurd (no_device _ e d refl x.1 p)
      | inr y ↦ absurd (none_some e y.1)
    ]
owned_mortal (m ∷ before) id e d h p = mortal_at before m id e d (introduces before m id) (λ q. owned_mortal before id e d q p) refl h p

-- what may be released may go
released_mortal : (k : KnownInterface) (m : Raw) → asks k (codes "release") m ≡ true → is_mortal k ≡ true
unfolding asks asked
released_mortal known.Handshake m h = absurd cc
released_mortal known.Connection m h = absurd cc
released_mortal known.Callback m h = absurd cc
released_mortal known.Pingpong m h = absurd cc
released_mortal k m h = refl

left_mortal : (before : List Raw) (d id : ℕ) (x : Entry) → list_any (nat_eq id) (interfaces_left before d) ≡ true → object before id ≡ Some x → is_mortal x.interface ≡ true
unfolding interfaces_left
left_mortal before d id x h k =
    let w = member_range (λ x. is_some (object before x)) id (d + 1) (length (device_interfaces before d)) h in
    let i = object_is_introduced before id x k in
    owned_mortal before id x d i (range_owner before d id x (omega (arith, w.1)) (omega (arith, w.2)) i)

one_mortal : (before : List Raw) (m : Raw) (e x : Entry) (id : ℕ) (b : Bool) → object before m.id ≡ Some e → object before id ≡ Some x → is_release (Some e) m ≡ b → list_any (nat_eq id) (cond b (going before m.id e.interface) []) ≡ true → is_mortal x.interface ≡ true
unfolding is_release
one_mortal before m e x id true k j r h =
    elim (going_cases before m.id id e.interface h) [
      | inl q ↦ same_mortal e x (sym k ∙ ap (object before) (sym q) ∙ j) (released_mortal e.interface m r)
      | inr w ↦ left_mortal before m.id id x w.1 j
    ]
one_mortal before m e x id false k j r h = absurd cc

mortal_with : (before : List Raw) (m : Raw) (id : ℕ) (x : Entry) (o : Option Entry) → object before m.id ≡ o → object before id ≡ Some x → list_any (nat_eq id) (gone_with before m o) ≡ true → is_mortal x.interface ≡ true
mortal_with before m id x None k j h = absurd cc
mortal_with before m id x (Some e) k j h = one_mortal before m e x id (is_release (Some e) m) k j refl h

pub gone_mortal : (before : List Raw) (m : Raw) (id : ℕ) (x : Entry) → object before id ≡ Some x → list_any (nat_eq id) (gone before m) ≡ true → is_mortal x.interface ≡ true
unfolding gone
gone_mortal before m id x j h = mortal_with before m id x (object before m.id) refl j h
