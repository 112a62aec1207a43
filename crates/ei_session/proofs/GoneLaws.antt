-- What goes never comes back.
use Rattle.std.proofs.Common.{◌≡◌, ℕ, zero, suc, ◌+◌, ◌-◌, ◌<◌, ◌≤◌, Bool, true, false, cond, not, ◌&&◌, ◌||◌, ltb, eqb, List, [], ◌∷◌, ◌++◌, length, Option}
use Rattle.std.proofs.Common.{Some, None, refl, sym, ap, ◌∙◌, arith, eq-eqb, ◌⊎◌, inl, inr}
use Rattle.std.specs.Prelude.{is_some, nat_eq, slice_get}
use Rattle.std.specs.List.{filter, range_with_len, list_any}
use Rattle.std.proofs.lemmas.Bool.{eqb-true}
use Rattle.std.proofs.lemmas.Bool.Decides.{nat_tests}
use Rattle.std.proofs.lemmas.List.Folds.{list_any-append}
use Rattle.ei_spec.specs.declared.interface.KnownInterface.{KnownInterface}
use Rattle.ei_spec.specs.declared.interface.KnownInterface.TheVariants as known
use Rattle.ei_spec.specs.Message.{Raw}
use Rattle.ei_spec.specs.History.{last_said}
use Rattle.ei_session.specs.Setup.{connection_id, seat_id}
use Rattle.ei_session.specs.Handshake.{connected, is_finish, is_the_finish}
use Rattle.ei_session.specs.Devices.{made, interfaces_of, next_id, device_interfaces}
use Rattle.ei_session.specs.Objects.{Entry, interface_entry, new_device, given, handed_over, introduces, introduced, is_release, is_device, is_of, removes}
use Rattle.ei_session.specs.Objects.{object, interfaces_left, going, gone_with, gone}
use Rattle.ei_types.specs.Capability.{capabilities}
use Rattle.ei_session.proofs.Choices.{chosen, some_is, none_some, not_both}
use Rattle.ei_session.proofs.MaskLaws.{masked_none, place_none}
use Rattle.ei_session.proofs.Opcodes.{release_opcode}
use Rattle.ei_session.proofs.ObjectLaws.{object_at, object_is_introduced, introduced_now, introduced_before, next_above, given_by, released, object_device_gone}
use Rattle.ei_session.proofs.ObjectLaws.{nothing_left}
use Rattle.ei_session.proofs.ObjectShape.{next_id_more, object_below, same_connected, release_makes_nothing}
use Rattle.ei_session.proofs.DeviceRange.{none_below, of_device}

-- ---- what isn't there, and is of a lower id than the next, never comes

pub record Dead (before : List Raw) (id : ℕ) : Type 0 where
  pub on : connected before ≡ true
  pub none : object before id ≡ None
  pub low : id < next_id before

pub no_finish_again : (before : List Raw) (m : Raw) → connected before ≡ true → is_the_finish before m ≡ false
unfolding is_the_finish
no_finish_again before m on = rw on (by (is_finish m))
  where
    by : (b : Bool) → (b && false) ≡ false
    by true = refl
    by false = refl

pub dead_more : (before : List Raw) (m : Raw) (id : ℕ) → Dead before id → Dead (m ∷ before) id
dead_more before m id d =
    let f = no_finish_again before m d.on in
    let i = none_below before m id (introduces before m id) d.low f refl in
    record {
      on = same_connected before m f ∙ d.on;
      none = object_at before m id None (removes before m id) i refl ∙ rw d.none (nothing_left (removes before m id));
      low = omega (arith, next_id_more before m, d.low);
    }

dead_ever : (more before : List Raw) (id : ℕ) → Dead before id → Dead (more ++ before) id
dead_ever [] before id d = d
dead_ever (m ∷ more) before id d = dead_more (more ++ before) m id (dead_ever more before id d)

-- ---- ids are below the next

owned : (before : List Raw) (device : ℕ) (is : List KnownInterface) (id : ℕ) (e : Entry) → e.device ≡ None → new_device before device is id ≡ Some e → ⊥
unfolding new_device
owned before device is id e n h =
    elim (chosen (eqb id device) _ _ _ h) [
      | inl a ↦ none_some device (sym n ∙ sym (ap (λ (x : Entry). x.device) (some_is _ e a.1)))
      | inr b ↦ elim (chosen (ltb device id) _ _ _ b.1) [
        | inl c ↦ entry (slice_get is (id - device - 1)) c.1
        | inr x ↦ none_some e x.1
      ]
    ]
  where
    entry : (o : Option KnownInterface) → interface_entry before device o ≡ Some e → ⊥
    entry None q = none_some e q
    entry (Some i) q = none_some device (sym n ∙ sym (ap (λ (x : Entry). x.device) (some_is _ e q)))

given_owned : (before : List Raw) (mask : Option ℕ) (id : ℕ) (e : Entry) → e.device ≡ None → given before mask id ≡ Some e → ⊥
given_owned before None id e n h = none_some e h
given_owned before (Some mask) id e n h = owned before (next_id before) (interfaces_of mask) id e n h

pub handed_low : (before : List Raw) (id : ℕ) (e : Entry) → handed_over before id ≡ Some e → id ≤ seat_id
unfolding handed_over
handed_low before id e h =
    elim (chosen (eqb id connection_id) _ _ _ h) [
      | inl x ↦ omega (arith, eqb-true id connection_id x.0)
      | inr y ↦ elim (chosen (eqb id seat_id) _ _ _ y.1) [
        | inl x ↦ omega (arith, eqb-true id seat_id x.0)
        | inr z ↦ absurd (none_some e z.1)
      ]
    ]

introduces_low : (before : List Raw) (m : Raw) (id : ℕ) (e : Entry) → e.device ≡ None → introduces before m id ≡ Some e → id ≤ seat_id
unfolding introduces
introduces_low before m id e n h =
    elim (chosen (is_the_finish before m) _ _ _ h) [
      | inl a ↦ handed_low before id e a.1
      | inr b ↦ absurd (given_owned before (made before m) id e n b.1)
    ]

low_at : (before : List Raw) (m : Raw) (id : ℕ) (e : Entry) (i : Option Entry) → e.device ≡ None → (introduced before id ≡ Some e → id ≤ seat_id) → introduces before m id ≡ i → introduced (m ∷ before) id ≡ Some e → id ≤ seat_id
low_at before m id e (Some x) n next q h = introduces_low before m id e n (q ∙ sym (introduced_now before m id x q) ∙ h)
low_at before m id e None n next q h = next (sym (introduced_before before m id q) ∙ h)

bare_low : (before : List Raw) (id : ℕ) (e : Entry) → e.device ≡ None → introduced before id ≡ Some e → id ≤ seat_id
unfolding introduced last_said
bare_low [] id e n h = by (eqb id 0) refl h
  where
    by : (b : Bool) → eqb id 0 ≡ b → cond b (Some (record { interface = known.Handshake; version = 1; device = None })) None ≡ Some e → id ≤ seat_id
    by true q h = omega (arith, eqb-true id 0 q)
    by false q h = absurd (none_some e h)
bare_low (m ∷ before) id e n h = low_at before m id e (introduces before m id) n (λ q. bare_low before id e n q) refl h

below_by : (before : List Raw) (id : ℕ) (e : Entry) (o : Option ℕ) → e.device ≡ o → object before id ≡ Some e → id < next_id before
below_by before id e None p k = omega (arith, next_above before, bare_low before id e p (object_is_introduced before id e k))
below_by before id e (Some d) p k = object_below before id e d k p

-- every id that the server has is below the next
pub all_below : (before : List Raw) (id : ℕ) (e : Entry) → object before id ≡ Some e → id < next_id before
all_below before id e k = below_by before id e e.device refl k

-- ---- what a release takes away

pub not_finish_by : (before : List Raw) (m : Raw) → m.opcode ≡ 0 → is_the_finish before m ≡ false
unfolding is_the_finish is_finish
not_finish_by before m o =
    let other : eqb m.opcode 1 ≡ false = grind (arith, nat_tests, o) in
    rw other (by (eqb m.id 0))
  where
    by : (b : Bool) → ((b && false) && not (connected before)) ≡ false
    by true = refl
    by false = refl

-- the target of a release isn't there any more
pub gone_self : (before : List Raw) (m : Raw) (e : Entry) → object before m.id ≡ Some e → is_release (Some e) m ≡ true → object (m ∷ before) m.id ≡ None
unfolding is_release
gone_self before m e k r =
    let f = not_finish_by before m (release_opcode e.interface m r) in
    let i : introduces before m m.id ≡ None = given_by before m m.id f ∙ ap (λ (x : Option ℕ). given before x m.id) (release_makes_nothing before m e.interface r) in
    let is : removes before m m.id ≡ true = released before m m.id e f (object_is_introduced before m.id e k) r ∙ rw (eq-eqb m.id m.id refl) refl in
    object_at before m m.id None true i is

pub member_range : (p : ℕ → Bool) (id a n : ℕ) → list_any (nat_eq id) (filter p (range_with_len a n)) ≡ true → (p id ≡ true) × (a ≤ id) × (id < a + n)
member_range p id a zero h = absurd cc
member_range p id a (suc n) h = by (p a) refl h (member_range p id (a + 1) n)
  where
    first_is : (b : Bool) → nat_eq id a ≡ b → p a ≡ true → (b || list_any (nat_eq id) (filter p (range_with_len (a + 1) n))) ≡ true → (list_any (nat_eq id) (filter p (range_with_len (a + 1) n)) ≡ true → (p id ≡ true) × (a + 1 ≤ id) × (id < a + 1 + n)) → (p id ≡ true) × (a ≤ id) × (id < a + suc n)
    first_is true e q h next = let same : id ≡ a = eqb-true id a e in (ap p same ∙ q, omega (arith, same), omega (arith, same))
    first_is false e q h next = let t = next h in (t.0, omega (arith, t.1), omega (arith, t.2))

    by : (b : Bool) → p a ≡ b → list_any (nat_eq id) (filter p (range_with_len a (suc n))) ≡ true → (list_any (nat_eq id) (filter p (range_with_len (a + 1) n)) ≡ true → (p id ≡ true) × (a + 1 ≤ id) × (id < a + 1 + n)) → (p id ≡ true) × (a ≤ id) × (id < a + suc n)
    by true q h next = first_is (nat_eq id a) refl q (rw q at h) next
    by false q h next = let t = next (rw q at h) in (t.0, omega (arith, t.1), omega (arith, t.2))

-- ---- a device is its own device

mask_plain : (mask : ℕ) → list_any is_device (interfaces_of mask) ≡ false
unfolding interfaces_of
mask_plain mask = masked_none is_device mask capabilities refl

no_device_kind : (x e : Entry) → is_device x.interface ≡ false → Some x ≡ Some e → is_device e.interface ≡ true → ⊥
no_device_kind x e f h t = not_both (is_device e.interface) t (ap (λ (y : Entry). is_device y.interface) (sym (some_is x e h)) ∙ f)

entry_plain : (before : List Raw) (device : ℕ) (is : List KnownInterface) (k : ℕ) (o : Option KnownInterface) (e : Entry) → list_any is_device is ≡ false → slice_get is k ≡ o → interface_entry before device o ≡ Some e → is_device e.interface ≡ true → ⊥
entry_plain before device is k None e h q p t = none_some e p
entry_plain before device is k (Some i) e h q p t = no_device_kind _ e (place_none is_device is k i h q) p t

new_self : (before : List Raw) (device : ℕ) (is : List KnownInterface) (id : ℕ) (e : Entry) → list_any is_device is ≡ false → new_device before device is id ≡ Some e → is_device e.interface ≡ true → e.device ≡ Some id
unfolding new_device
new_self before device is id e plain h t =
    elim (chosen (eqb id device) _ _ _ h) [
      | inl a ↦ sym (ap (λ (x : Entry). x.device) (some_is _ e a.1)) ∙ ap (λ (n : ℕ). Some n) (sym (eqb-true id device a.0))
      | inr b ↦ elim (chosen (ltb device id) _ _ _ b.1) [
        | inl c ↦ absurd (entry_plain before device is (id - device - 1) (slice_get is (id - device - 1)) e plain refl c.1 t)
        | inr x ↦ absurd (none_some e x.1)
      ]
    ]

given_self : (before : List Raw) (mask : Option ℕ) (id : ℕ) (e : Entry) → given before mask id ≡ Some e → is_device e.interface ≡ true → e.device ≡ Some id
given_self before None id e h t = absurd (none_some e h)
given_self before (Some mask) id e h t = new_self before (next_id before) (interfaces_of mask) id e (mask_plain mask) h t

introduces_self : (before : List Raw) (m : Raw) (id : ℕ) (e : Entry) → introduces before m id ≡ Some e → is_device e.interface ≡ true → e.device ≡ Some id
unfolding introduces handed_over
introduces_self before m id e h t =
    elim (chosen (is_the_finish before m) _ _ _ h) [
      | inl a ↦ elim (chosen (eqb id connection_id) _ _ _ a.1) [
        | inl x ↦ absurd (no_device_kind _ e refl x.1 t)
        | inr y ↦ elim (chosen (eqb id seat_id) _ _ _ y.1) [
          | inl x ↦ absurd (no_device_kind _ e refl x.1 t)
          | inr z ↦ absurd (none_some e z.1)
        ]
      ]
      | inr b ↦ given_self before (made before m) id e b.1 t
    ]

self_at : (before : List Raw) (m : Raw) (id : ℕ) (e : Entry) (i : Option Entry) → (introduced before id ≡ Some e → e.device ≡ Some id) → introduces before m id ≡ i → introduced (m ∷ before) id ≡ Some e → is_device e.interface ≡ true → e.device ≡ Some id
self_at before m id e (Some x) next q h t = introduces_self before m id e (q ∙ sym (introduced_now before m id x q) ∙ h) t
self_at before m id e None next q h t = next (sym (introduced_before before m id q) ∙ h)

device_self : (before : List Raw) (id : ℕ) (e : Entry) → introduced before id ≡ Some e → is_device e.interface ≡ true → e.device ≡ Some id
unfolding introduced last_said
device_self [] id e h t =
    elim (chosen (eqb id 0) _ _ _ h) [
      | inl x ↦ absurd (no_device_kind _ e refl x.1 t)
      | inr y ↦ absurd (none_some e y.1)
    ]
device_self (m ∷ before) id e h t = self_at before m id e (introduces before m id) (λ q. device_self before id e q t) refl h t

pub object_device : (before : List Raw) (id : ℕ) (e : Entry) → object before id ≡ Some e → e.interface ≡ known.Device → e.device ≡ Some id
object_device before id e k i = device_self before id e (object_is_introduced before id e k) (ap is_device i)

-- ---- each id that goes was there, and isn't any more

pub going_cases : (before : List Raw) (x id : ℕ) (k : KnownInterface) → list_any (nat_eq id) (going before x k) ≡ true → (id ≡ x) ⊎ ((k ≡ known.Device) × (list_any (nat_eq id) (interfaces_left before x) ≡ true))
going_cases before x id known.Device h = by (list_any (nat_eq id) (interfaces_left before x)) (nat_eq id x) refl refl (sym (list_any-append (nat_eq id) (interfaces_left before x) (x ∷ [])) ∙ h)
  where
    by : (a b : Bool) → list_any (nat_eq id) (interfaces_left before x) ≡ a → nat_eq id x ≡ b → (a || (b || false)) ≡ true → (id ≡ x) ⊎ ((known.Device ≡ known.Device) × (list_any (nat_eq id) (interfaces_left before x) ≡ true))
    by true b p q e = inr (refl, p)
    by false true p q e = inl (eqb-true id x q)
    by false false p q e = absurd cc
going_cases before x id k h = by (nat_eq id x) refl h
  where
    by : (b : Bool) → nat_eq id x ≡ b → (b || false) ≡ true → (id ≡ x) ⊎ ((k ≡ known.Device) × (list_any (nat_eq id) (interfaces_left before x) ≡ true))
    by true q e = inl (eqb-true id x q)
    by false q e = absurd cc

-- what goes was there before the message, and isn't after it
pub record Goes (before : List Raw) (m : Raw) (id : ℕ) : Type 0 where
  pub there : is_some (object before id) ≡ true
  pub none : object (m ∷ before) id ≡ None

left_goes : (before : List Raw) (m : Raw) (e : Entry) (id : ℕ) → object before m.id ≡ Some e → e.interface ≡ known.Device → is_release (Some e) m ≡ true → list_any (nat_eq id) (interfaces_left before m.id) ≡ true → Goes before m id
unfolding interfaces_left
left_goes before m e id k i r h =
    let w = member_range (λ x. is_some (object before x)) id (m.id + 1) (length (device_interfaces before m.id)) h in
    let own : is_of m.id (object before id) ≡ true = of_device before m.id m.id id (object before id) (omega (arith, w.1)) (omega (arith, w.2)) refl ∙ rw (w.0, eq-eqb m.id m.id refl) refl in
    record { there = w.0; none = object_device_gone before m e id k (object_device before m.id e k i) i r own }

self_goes : (before : List Raw) (m : Raw) (e : Entry) (id : ℕ) → object before m.id ≡ Some e → is_release (Some e) m ≡ true → id ≡ m.id → Goes before m id
self_goes before m e id k r q = record { there = ap (λ (n : ℕ). is_some (object before n)) q ∙ ap is_some k; none = ap (object (m ∷ before)) q ∙ gone_self before m e k r }

goes_at : (before : List Raw) (m : Raw) (e : Entry) (id : ℕ) (b : Bool) → object before m.id ≡ Some e → is_release (Some e) m ≡ b → list_any (nat_eq id) (cond b (going before m.id e.interface) []) ≡ true → Goes before m id
goes_at before m e id true k r h = elim (going_cases before m.id id e.interface h) [ inl q ↦ self_goes before m e id k r q | inr w ↦ left_goes before m e id k w.0 r w.1 ]
goes_at before m e id false k r h = absurd cc

goes_by : (before : List Raw) (m : Raw) (id : ℕ) (o : Option Entry) → object before m.id ≡ o → list_any (nat_eq id) (gone_with before m o) ≡ true → Goes before m id
goes_by before m id None k h = absurd cc
goes_by before m id (Some e) k h = goes_at before m e id (is_release (Some e) m) k refl h

pub goes : (before : List Raw) (m : Raw) (id : ℕ) → list_any (nat_eq id) (gone before m) ≡ true → Goes before m id
unfolding gone
goes before m id h = goes_by before m id (object before m.id) refl h

pub some_entry : (o : Option Entry) → is_some o ≡ true → (e : Entry) × (o ≡ Some e)
some_entry None h = absurd cc
some_entry (Some e) h = (e, refl)

pub connected_by : (before : List Raw) (m : Raw) (id : ℕ) (b : Bool) → connected before ≡ b → list_any (nat_eq id) (gone before m) ≡ true → connected (m ∷ before) ≡ true → Dead (m ∷ before) id
connected_by before m id b on h after =
    let g = goes before m id h in
    let e = some_entry (object before id) g.there in
    record { on = after; none = g.none; low = omega (arith, next_id_more before m, all_below before id e.0 e.1) }

-- what a release took away is never there again
pub gone_for_good : (more before : List Raw) (m : Raw) (id : ℕ) → connected (m ∷ before) ≡ true → list_any (nat_eq id) (gone before m) ≡ true → object (more ++ (m ∷ before)) id ≡ None
gone_for_good more before m id on h = (dead_ever more (m ∷ before) id (connected_by before m id (connected before) refl h on)).none
