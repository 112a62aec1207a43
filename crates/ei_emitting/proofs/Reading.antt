-- What a held device's object of an interface is.
use Rattle.std.proofs.Common.{◌≡◌, ℕ, ◌+◌, Bool, true, false, cond, eqb, ◌||◌, List, [], ◌∷◌, Some, None, refl, sym, ap, subst, ◌∙◌, arith}
use Rattle.std.specs.Prelude.{find, not}
use Rattle.std.specs.List.{list_all}
use Rattle.std.proofs.lemmas.Bool.{and_parts, eqb-true, eq-eqb}
use Rattle.std.proofs.lemmas.Option.{same_Some}
use Rattle.ei_spec.specs.declared.interface.KnownInterface.{KnownInterface}
use Rattle.ei_spec.specs.declared.interface.KnownInterface.TheVariants as known
use Rattle.ei_spec.specs.Interface.{Interface, Known, Other, ObjectView, about, place_of}
use Rattle.ei_types.specs.Capability.{capabilities, has_bit}
use Rattle.ei_session.specs.Devices.{interfaces_of}
use Rattle.ei_backend.specs.Object.{same_name}
use Rattle.ei_backend.specs.Table.{TableView, found}
use Rattle.ei_backend.proofs.Equal.{one_interface, decides_name}
use Rattle.ei_ends.specs.Sent.{Sent}
use Rattle.ei_told.specs.Told.{all_said}
use Rattle.ei_request.specs.Keys.{DeviceKey}
use Rattle.ei_request.specs.Held.{is_device, is_of_key}
use Rattle.ei_request.specs.Connection.{ConnectionView}
use Rattle.ei_request.specs.Making.{object_of, is_one_of}
use Rattle.ei_request.specs.Reading.{interface_in}
use Rattle.ei_acts.proofs.Parts.{not_both}
use Rattle.ei_emitting.specs.Emitted.{Step, added, is_held, has_by, id_in, mask_in}
use Rattle.ei_emitting.specs.Emits.{AreFrom, AllFound, HoldsDevice, Emits, IsKeyOf, place_in, interface_id}
use Rattle.ei_emitting.proofs.Finding.{key_found}
use Rattle.ei_emitting.proofs.Inputting.{same_place, is_in, chosen_of, in_mask}

-- ---- by names and by places

abbrev known_in : Interface → KnownInterface
known_in (Known k) = k
known_in (Other n) = known.Device

same_is : (j k : KnownInterface) → same_name (Known j) (Known k) ≡ eqb (place_of j) (place_of k)
same_is j k = by (same_name (Known j) (Known k)) (eqb (place_of j) (place_of k)) refl refl
  where
    by : (p q : Bool) → same_name (Known j) (Known k) ≡ p → eqb (place_of j) (place_of k) ≡ q → same_name (Known j) (Known k) ≡ eqb (place_of j) (place_of k)
    by true q e f = e ∙ sym (eq-eqb (place_of j) (place_of k) (ap (λ (i : Interface). place_of (known_in i)) (one_interface (Known j) (Known k) e)))
    by false true e f = absurd (not_both (same_name (Known j) (Known k)) ((decides_name (Known j) (Known k)).1 (ap (λ (i : KnownInterface). Known i) (same_place j k f))) e)
    by false false e f = e ∙ sym f

one_of : (j k : KnownInterface) (o : ObjectView) → o.interface ≡ Known j → is_one_of k o ≡ eqb (place_of j) (place_of k)
one_of j k o e = ap (λ (i : Interface). same_name i (Known k)) e ∙ same_is j k

-- ---- among the objects of a device

pub record IsRead (t : TableView) (id : ℕ) (k : KnownInterface) (o : ObjectView) : Type 0 where
  pub its : o.id ≡ id
  pub is : o.interface ≡ Known k
  pub there : found t o.id ≡ Some o

read_some : (t : TableView) (from : ℕ) (k : KnownInterface) (ks : List KnownInterface) (os : List ObjectView) (o : ObjectView) → AreFrom from ks os → AllFound t os → object_of k os ≡ Some o →
    (is_in k ks ≡ true) × IsRead t (from + place_in k ks) k o
read_some t from k [] [] o a f h = absurd cc
read_some t from k [] (p ∷ os) o a f h = absurd a
read_some t from k (j ∷ ks) [] o a f h = absurd a
read_some t from k (j ∷ ks) (p ∷ os) o a f h =
    by (eqb (place_of j) (place_of k)) refl (sym (ap (λ (b : Bool). cond b (Some p) (object_of k os)) (one_of j k p a.1)) ∙ h) (read_some t (from + 1) k ks os o a.2 f.1)
  where
    by : (b : Bool) → eqb (place_of j) (place_of k) ≡ b → cond b (Some p) (object_of k os) ≡ Some o → (object_of k os ≡ Some o → (is_in k ks ≡ true) × IsRead t (from + 1 + place_in k ks) k o) →
        ((b || is_in k ks) ≡ true) × IsRead t (from + cond b 0 (place_in k ks + 1)) k o
    by true e g next =
        let i = a.0 in
        let first : IsRead t (from + 0) k p = record { its = omega (arith, i); is = a.1 ∙ ap (λ (l : KnownInterface). Known l) (same_place j k e); there = f.0 } in
        (refl, subst (IsRead t (from + 0) k) (same_Some p o g) first)
    by false e g next =
        let r = next g in
        let same : from + 1 + place_in k ks ≡ from + (place_in k ks + 1) = omega arith in
        (r.0, subst (λ (n : ℕ). IsRead t n k o) same r.1)

read_none : (from : ℕ) (k : KnownInterface) (ks : List KnownInterface) (os : List ObjectView) → AreFrom from ks os → object_of k os ≡ None → is_in k ks ≡ false
read_none from k [] os a h = refl
read_none from k (j ∷ ks) [] a h = absurd a
read_none from k (j ∷ ks) (p ∷ os) a h = by (eqb (place_of j) (place_of k)) (sym (ap (λ (b : Bool). cond b (Some p) (object_of k os)) (one_of j k p a.1)) ∙ h) (read_none (from + 1) k ks os a.2)
  where
    by : (b : Bool) → cond b (Some p) (object_of k os) ≡ None → (object_of k os ≡ None → is_in k ks ≡ false) → (b || is_in k ks) ≡ false
    by true g next = absurd cc
    by false g next = next g

-- ---- the interfaces of a mask

chosen_true : (mask : ℕ) (c : ℕ × KnownInterface) (cs : List (ℕ × KnownInterface)) → has_bit mask c.0 ≡ true → chosen_of mask (c ∷ cs) ≡ c.1 ∷ chosen_of mask cs
chosen_true mask c cs e = rw e refl

chosen_false : (mask : ℕ) (c : ℕ × KnownInterface) (cs : List (ℕ × KnownInterface)) → has_bit mask c.0 ≡ false → chosen_of mask (c ∷ cs) ≡ chosen_of mask cs
chosen_false mask c cs e = rw e refl

-- the interface has that bit alone, or none has it
abbrev only_by : KnownInterface → ℕ → ℕ × KnownInterface → Bool
only_by k bit c = not (eqb (place_of c.1) (place_of k)) || eqb c.0 bit

abbrev is_another : KnownInterface → ℕ × KnownInterface → Bool
is_another k c = not (eqb (place_of c.1) (place_of k))

chosen_has : (mask bit : ℕ) (k : KnownInterface) (cs : List (ℕ × KnownInterface)) → list_all (only_by k bit) cs ≡ true → is_in k (chosen_of mask cs) ≡ true → has_bit mask bit ≡ true
chosen_has mask bit k [] r h = absurd cc
chosen_has mask bit k (c ∷ cs) r h =
    let parts = and_parts (only_by k bit c) (list_all (only_by k bit) cs) r in
    by (has_bit mask c.0) (eqb (place_of c.1) (place_of k)) refl parts.0 refl (chosen_has mask bit k cs parts.1)
  where
    by : (p q : Bool) → has_bit mask c.0 ≡ p → (not q || eqb c.0 bit) ≡ true → eqb (place_of c.1) (place_of k) ≡ q → (is_in k (chosen_of mask cs) ≡ true → has_bit mask bit ≡ true) → has_bit mask bit ≡ true
    by true true e f g next = ap (has_bit mask) (sym (eqb-true c.0 bit f)) ∙ e
    by true false e f g next = next (sym (ap (is_in k) (chosen_true mask c cs e) ∙ ap (λ (b : Bool). b || is_in k (chosen_of mask cs)) g) ∙ h)
    by false q e f g next = next (sym (ap (is_in k) (chosen_false mask c cs e)) ∙ h)

chosen_none : (mask : ℕ) (k : KnownInterface) (cs : List (ℕ × KnownInterface)) → list_all (is_another k) cs ≡ true → is_in k (chosen_of mask cs) ≡ false
chosen_none mask k [] r = refl
chosen_none mask k (c ∷ cs) r =
    let parts = and_parts (is_another k c) (list_all (is_another k) cs) r in
    by (has_bit mask c.0) refl (not_true (eqb (place_of c.1) (place_of k)) parts.0) (chosen_none mask k cs parts.1)
  where
    not_true : (b : Bool) → not b ≡ true → b ≡ false
    not_true true e = absurd cc
    not_true false e = refl

    by : (p : Bool) → has_bit mask c.0 ≡ p → eqb (place_of c.1) (place_of k) ≡ false → is_in k (chosen_of mask cs) ≡ false → is_in k (chosen_of mask (c ∷ cs)) ≡ false
    by true e f next = ap (is_in k) (chosen_true mask c cs e) ∙ ap (λ (b : Bool). b || is_in k (chosen_of mask cs)) f ∙ next
    by false e f next = ap (is_in k) (chosen_false mask c cs e) ∙ next

pub mask_has : (mask : ℕ) (k : KnownInterface) → is_in k (interfaces_of mask) ≡ true → has_by mask (about k).bit ≡ true
unfolding interfaces_of
mask_has mask known.Handshake h = absurd (not_both (is_in known.Handshake (chosen_of mask capabilities)) h (chosen_none mask known.Handshake capabilities refl))
mask_has mask known.Connection h = absurd (not_both (is_in known.Connection (chosen_of mask capabilities)) h (chosen_none mask known.Connection capabilities refl))
mask_has mask known.Callback h = absurd (not_both (is_in known.Callback (chosen_of mask capabilities)) h (chosen_none mask known.Callback capabilities refl))
mask_has mask known.Pingpong h = absurd (not_both (is_in known.Pingpong (chosen_of mask capabilities)) h (chosen_none mask known.Pingpong capabilities refl))
mask_has mask known.Seat h = absurd (not_both (is_in known.Seat (chosen_of mask capabilities)) h (chosen_none mask known.Seat capabilities refl))
mask_has mask known.Device h = absurd (not_both (is_in known.Device (chosen_of mask capabilities)) h (chosen_none mask known.Device capabilities refl))
mask_has mask known.Pointer h = chosen_has mask 1 known.Pointer capabilities refl h
mask_has mask known.PointerAbsolute h = chosen_has mask 2 known.PointerAbsolute capabilities refl h
mask_has mask known.Scroll h = chosen_has mask 16 known.Scroll capabilities refl h
mask_has mask known.Button h = chosen_has mask 32 known.Button capabilities refl h
mask_has mask known.Keyboard h = chosen_has mask 4 known.Keyboard capabilities refl h
mask_has mask known.Touchscreen h = chosen_has mask 8 known.Touchscreen capabilities refl h
mask_has mask known.Text h = chosen_has mask 64 known.Text capabilities refl h
mask_has mask known.Gesture h = chosen_has mask 128 known.Gesture capabilities refl h

-- ---- of a device that is held

module _ (start : ℕ) (before : List Step) (c : ConnectionView) (past : List Sent) (number : ℕ) (key : DeviceKey) (k : KnownInterface) (x : Emits start before c past) (held : is_held before number ≡ true)
    (i : IsKeyOf before number key) where
  abbrev mask : ℕ
  mask = mask_in (added before number)

  abbrev id : ℕ
  id = id_in (added before number)

  h : HoldsDevice id mask c (all_said past)
  h = x.devices number held

  found_key : find (is_of_key key) c.devices ≡ Some h.device
  found_key = key_found key c.devices h.device (h.seat ∙ sym i.seat) (ap (λ (n : ℕ). find (is_device n) c.devices) i.device ∙ h.held)

  pub some : (o : ObjectView) → interface_in k (find (is_of_key key) c.devices) ≡ Some o →
      (has_by mask (about k).bit ≡ true) × (o.id ≡ interface_id before number k) × (o.interface ≡ Known k) × (found c.ctx.table o.id ≡ Some o)
  some o e =
      let r = read_some c.ctx.table (id + 1) k (interfaces_of mask) h.device.interfaces o h.interfaces h.there (sym (ap (interface_in k) found_key) ∙ e) in
      (mask_has mask k r.0, r.1.its, r.1.is, r.1.there)

  pub none : interface_in k (find (is_of_key key) c.devices) ≡ None → has_by mask (about k).bit ≡ false
  none e = by (has_by mask (about k).bit) refl
    where
      by : (b : Bool) → has_by mask (about k).bit ≡ b → has_by mask (about k).bit ≡ false
      by true f = absurd (not_both (is_in k (interfaces_of mask)) (in_mask mask k f) (read_none (id + 1) k (interfaces_of mask) h.device.interfaces h.interfaces (sym (ap (interface_in k) found_key) ∙ e)))
      by false f = f

pub read_object : (start : ℕ) (before : List Step) (c : ConnectionView) (past : List Sent) (number : ℕ) (key : DeviceKey) (k : KnownInterface) (o : ObjectView) → Emits start before c past → is_held before number ≡ true →
    IsKeyOf before number key → interface_in k (find (is_of_key key) c.devices) ≡ Some o →
    (has_by (mask_in (added before number)) (about k).bit ≡ true) × (o.id ≡ interface_id before number k) × (o.interface ≡ Known k) × (found c.ctx.table o.id ≡ Some o)
read_object start before c past number key k o x held i e = some start before c past number key k x held i o e

pub read_nothing : (start : ℕ) (before : List Step) (c : ConnectionView) (past : List Sent) (number : ℕ) (key : DeviceKey) (k : KnownInterface) → Emits start before c past → is_held before number ≡ true →
    IsKeyOf before number key → interface_in k (find (is_of_key key) c.devices) ≡ None → has_by (mask_in (added before number)) (about k).bit ≡ false
read_nothing start before c past number key k x held i e = none start before c past number key k x held i e
