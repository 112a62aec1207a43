-- The objects after one more message.
use Rattle.std.proofs.Common.{◌≡◌, ◌≢◌, ℕ, ◌<◌, Bool, true, false, cond, ◌&&◌, ◌||◌, ltb, eqb, List, [], ◌∷◌, Option, Some, None, refl, sym, ap, ◌∙◌, arith}
use Rattle.std.proofs.Common.{eq-eqb, inl, inr}
use Rattle.std.specs.Prelude.{unwrap_or}
use Rattle.std.specs.Option.{option_or}
use Rattle.std.proofs.lemmas.Bool.{eqb-true, ltb-true}
use Rattle.std.proofs.lemmas.Bool.Decides.{nat_tests}
use Rattle.ei_spec.specs.declared.interface.KnownInterface.{KnownInterface}
use Rattle.ei_spec.specs.declared.interface.KnownInterface.TheVariants as known
use Rattle.ei_spec.specs.Message.{Raw}
use Rattle.ei_spec.specs.History.{last_said}
use Rattle.ei_spec.proofs.HistoryLaws.{said_now, said_before}
use Rattle.ei_session.specs.Setup.{connection_id, seat_id}
use Rattle.ei_session.specs.Handshake.{is_finish, is_the_finish, version}
use Rattle.ei_session.specs.Devices.{seat_is_open, asked_mask, not_empty, made, interfaces_of, next_id}
use Rattle.ei_session.specs.Objects.{Entry, new_device, given, handed_over, introduces, introduced, is_release, is_device, was_device, is_of, removes, said}
use Rattle.ei_session.specs.Objects.{says, object}
use Rattle.ei_session.proofs.Choices.{chosen, some_is, none_some, and_false, and_right}
use Rattle.ei_session.proofs.Opcodes.{mask_no_release}

-- ---- any message

-- what is at an id after it is given to something, or taken away, or neither
abbrev pub changed : Option Entry → Bool → Option Entry → Option Entry
changed (Some e) removed old = Some e
changed None true old = None
changed None false old = old

pub object_at : (before : List Raw) (m : Raw) (id : ℕ) (i : Option Entry) (r : Bool) → introduces before m id ≡ i → removes before m id ≡ r → object (m ∷ before) id ≡ changed i r (object before id)
unfolding object says
object_at before m id (Some e) r p q = rw (said_now (says id) before m (Some e) (rw (p, says) refl), object) refl
object_at before m id None true p q = rw (said_now (says id) before m None (rw (p, q, says) refl), object) refl
object_at before m id None false p q = rw (said_before (says id) before m (rw (p, q, says) refl), object) refl

pub object_more : (before : List Raw) (m : Raw) (id : ℕ) → object (m ∷ before) id ≡ changed (introduces before m id) (removes before m id) (object before id)
object_more before m id = object_at before m id (introduces before m id) (removes before m id) refl refl

pub introduced_now : (before : List Raw) (m : Raw) (id : ℕ) (e : Entry) → introduces before m id ≡ Some e → introduced (m ∷ before) id ≡ Some e
unfolding introduced
introduced_now before m id e p = rw (said_now (λ b m. introduces b m id) before m e p, introduced) refl

pub introduced_before : (before : List Raw) (m : Raw) (id : ℕ) → introduces before m id ≡ None → introduced (m ∷ before) id ≡ introduced before id
unfolding introduced
introduced_before before m id p = rw (said_before (λ b m. introduces b m id) before m p, introduced) refl

-- ---- what is there was given so

introduced_at : (before : List Raw) (m : Raw) (id : ℕ) (e : Entry) (i : Option Entry) (r : Bool) → (object before id ≡ Some e → introduced before id ≡ Some e) → introduces before m id ≡ i → changed i r (object before id) ≡ Some e → introduced (m ∷ before) id ≡ Some e
introduced_at before m id e (Some x) r next p h = introduced_now before m id e (p ∙ h)
introduced_at before m id e None true next p h = absurd (none_some e h)
introduced_at before m id e None false next p h = introduced_before before m id p ∙ next h

pub object_is_introduced : (before : List Raw) (id : ℕ) (e : Entry) → object before id ≡ Some e → introduced before id ≡ Some e
unfolding object introduced last_said
object_is_introduced [] id e h = h
object_is_introduced (m ∷ before) id e h = introduced_at before m id e (introduces before m id) (removes before m id) (object_is_introduced before id e) refl (sym (object_more before m id) ∙ h)

-- ---- the ids of devices and of their interfaces are above the seat

pub next_above : (before : List Raw) → seat_id < next_id before
unfolding next_id
next_above before = omega arith

pub no_device : (x e : Entry) (d : ℕ) → x.device ≡ None → Some x ≡ Some e → e.device ≡ Some d → ⊥
no_device x e d n h p =
    let same : x.device ≡ e.device = ap (λ (y : Entry). y.device) (some_is x e h) in
    none_some d (sym n ∙ same ∙ p)

new_device_above : (before : List Raw) (device : ℕ) (is : List KnownInterface) (id : ℕ) (e : Entry) → seat_id < device → new_device before device is id ≡ Some e → seat_id < id
unfolding new_device
new_device_above before device is id e le h =
    elim (chosen (eqb id device) _ _ _ h) [
      | inl a ↦ omega (arith, eqb-true id device a.0)
      | inr b ↦ elim (chosen (ltb device id) _ _ _ b.1) [
        | inl c ↦ omega (arith, ltb-true device id c.0)
        | inr d ↦ absurd (none_some e d.1)
      ]
    ]

pub given_above : (before : List Raw) (mask : Option ℕ) (id : ℕ) (e : Entry) → given before mask id ≡ Some e → seat_id < id
given_above before None id e h = absurd (none_some e h)
given_above before (Some mask) id e h = new_device_above before (next_id before) (interfaces_of mask) id e (next_above before) h

-- nothing with a device is handed over by the finish
pub handed_over_bare : (before : List Raw) (id : ℕ) (e : Entry) (d : ℕ) → handed_over before id ≡ Some e → e.device ≡ Some d → ⊥
unfolding handed_over
handed_over_bare before id e d h p =
    elim (chosen (eqb id connection_id) _ _ _ h) [
      | inl x ↦ no_device _ e d refl x.1 p
      | inr y ↦ elim (chosen (eqb id seat_id) _ _ _ y.1) [
        | inl x ↦ no_device _ e d refl x.1 p
        | inr z ↦ none_some e z.1
      ]
    ]

-- what has a device came with that device
pub by_making : (before : List Raw) (m : Raw) (id : ℕ) (e : Entry) (d : ℕ) → introduces before m id ≡ Some e → e.device ≡ Some d → (is_the_finish before m ≡ false) × (given before (made before m) id ≡ Some e)
unfolding introduces
by_making before m id e d h p =
    elim (chosen (is_the_finish before m) _ _ _ h) [
      | inl a ↦ absurd (handed_over_bare before id e d a.1 p)
      | inr b ↦ b
    ]

pub introduces_above : (before : List Raw) (m : Raw) (id : ℕ) (e : Entry) (d : ℕ) → introduces before m id ≡ Some e → e.device ≡ Some d → seat_id < id
introduces_above before m id e d h p = given_above before (made before m) id e (by_making before m id e d h p).1

above_at : (before : List Raw) (m : Raw) (id : ℕ) (e : Entry) (d : ℕ) (i : Option Entry) → (introduced before id ≡ Some e → seat_id < id) → introduces before m id ≡ i → introduced (m ∷ before) id ≡ Some e → e.device ≡ Some d → seat_id < id
above_at before m id e d (Some x) next q h p = introduces_above before m id e d (q ∙ sym (introduced_now before m id x q) ∙ h) p
above_at before m id e d None next q h p = next (sym (introduced_before before m id q) ∙ h)

pub device_above : (before : List Raw) (id : ℕ) (e : Entry) (d : ℕ) → introduced before id ≡ Some e → e.device ≡ Some d → seat_id < id
unfolding introduced last_said
device_above [] id e d h p =
    elim (chosen (eqb id 0) _ _ _ h) [
      | inl x ↦ absurd (no_device _ e d refl x.1 p)
      | inr y ↦ absurd (none_some e y.1)
    ]
device_above (m ∷ before) id e d h p = above_at before m id e d (introduces before m id) (λ q. device_above before id e d q p) refl h p

-- ---- a message that gives nothing and releases nothing

pub given_by : (before : List Raw) (m : Raw) (id : ℕ) → is_the_finish before m ≡ false → introduces before m id ≡ given before (made before m) id
unfolding introduces
given_by before m id f = rw (f, introduces) refl

pub keeps_by : (before : List Raw) (m : Raw) (id : ℕ) → is_the_finish before m ≡ false → is_release (introduced before m.id) m ≡ false → removes before m id ≡ false
unfolding removes
keeps_by before m id f r = rw (f, r, removes) refl

pub object_keeps : (before : List Raw) (m : Raw) (id : ℕ) → is_the_finish before m ≡ false → made before m ≡ None → is_release (introduced before m.id) m ≡ false → object (m ∷ before) id ≡ object before id
object_keeps before m id f e r = object_at before m id None false (given_by before m id f ∙ ap (λ (x : Option ℕ). given before x id) e) (keeps_by before m id f r)

-- ---- a message to a device, or to an interface of one

-- it is no finish and makes nothing
pub not_finish : (before : List Raw) (m : Raw) → 0 < m.id → is_the_finish before m ≡ false
unfolding is_the_finish is_finish
not_finish before m lt = let other : eqb m.id 0 ≡ false = grind (arith, nat_tests) in rw other refl

pub makes_nothing : (before : List Raw) (m : Raw) → m.id ≢ seat_id → made before m ≡ None
unfolding made
makes_nothing before m far =
    let other : eqb m.id seat_id ≡ false = grind (arith, nat_tests, far) in
    rw (other, and_false (seat_is_open before)) refl

pub above_makes_nothing : (before : List Raw) (m : Raw) → seat_id < m.id → made before m ≡ None
above_makes_nothing before m lt = makes_nothing before m (λ e. omega (arith, e))

pub gives_nothing : (before : List Raw) (m : Raw) (id : ℕ) → seat_id < m.id → introduces before m id ≡ None
gives_nothing before m id lt = given_by before m id (not_finish before m (omega arith)) ∙ ap (λ (x : Option ℕ). given before x id) (above_makes_nothing before m lt)

-- any request to a device, or to an interface of one, that is no release
pub object_plain : (before : List Raw) (m : Raw) (e : Entry) (d : ℕ) (id : ℕ) → object before m.id ≡ Some e → e.device ≡ Some d → is_release (Some e) m ≡ false → object (m ∷ before) id ≡ object before id
object_plain before m e d id k p r =
    let i = object_is_introduced before m.id e k in
    let le = device_above before m.id e d i p in
    object_keeps before m id (not_finish before m (omega arith)) (above_makes_nothing before m le) (ap (λ (x : Option Entry). is_release x m) i ∙ r)

-- ---- releases

or_false : (b : Bool) → (true && (b || (false && false))) ≡ b
or_false true = refl
or_false false = refl

pub if_removed : (b : Bool) (old : Option Entry) → changed None b old ≡ cond b None old
if_removed true old = refl
if_removed false old = refl

pub released : (before : List Raw) (m : Raw) (id : ℕ) (e : Entry) → is_the_finish before m ≡ false → introduced before m.id ≡ Some e → is_release (Some e) m ≡ true → removes before m id ≡ (eqb m.id id || (is_device e.interface && is_of m.id (introduced before id)))
unfolding removes was_device
released before m id e f i r = rw (f, i, r, removes) refl

-- the release of an interface takes it alone
pub object_interface_release : (before : List Raw) (m : Raw) (e : Entry) (d : ℕ) (id : ℕ) → object before m.id ≡ Some e → e.device ≡ Some d → is_device e.interface ≡ false → is_release (Some e) m ≡ true → object (m ∷ before) id ≡ cond (eqb m.id id) None (object before id)
object_interface_release before m e d id k p other r =
    let i = object_is_introduced before m.id e k in
    let le = device_above before m.id e d i p in
    let is : removes before m id ≡ eqb m.id id = released before m id e (not_finish before m (omega arith)) i r ∙ rw other (or_false (eqb m.id id)) in
    object_at before m id None (eqb m.id id) (gives_nothing before m id le) is ∙ if_removed (eqb m.id id) (object before id)

pub nothing_left : (b : Bool) → changed None b None ≡ None
nothing_left true = refl
nothing_left false = refl

or_same : (b c : Bool) → (b ≡ true → c ≡ true) → (b || (true && c)) ≡ c
or_same true c h = sym (h refl)
or_same false c h = refl

pub is_of_own : (device : ℕ) (e : Entry) → e.device ≡ Some device → is_of device (Some e) ≡ true
unfolding is_of
is_of_own device e p = rw (p, is_of) (eq-eqb device device refl)

-- what is left of a device that goes, and of its interfaces
abbrev pub without : ℕ → Option Entry → Option Entry
without device None = None
without device (Some e) = cond (is_of device (Some e)) None (Some e)

device_release_at : (before : List Raw) (m : Raw) (e : Entry) (id : ℕ) → object before m.id ≡ Some e → e.device ≡ Some m.id → is_device e.interface ≡ true → is_release (Some e) m ≡ true → (o : Option Entry) → object before id ≡ o → object (m ∷ before) id ≡ without m.id (object before id)
device_release_at before m e id k p other r None q =
    let le = device_above before m.id e m.id (object_is_introduced before m.id e k) p in
    object_at before m id None (removes before m id) (gives_nothing before m id le) refl ∙ rw q (nothing_left (removes before m id))
device_release_at before m e id k p other r (Some x) q =
    let i = object_is_introduced before m.id e k in
    let j = object_is_introduced before id x q in
    let le = device_above before m.id e m.id i p in
    let own : eqb m.id id ≡ true → is_of m.id (Some x) ≡ true = λ t. let same : Some e ≡ Some x = sym k ∙ ap (object before) (eqb-true m.id id t) ∙ q in ap (is_of m.id) (sym same) ∙ is_of_own m.id e p in
    let is : removes before m id ≡ is_of m.id (Some x) = released before m id e (not_finish before m (omega arith)) i r ∙ rw (other, j) (or_same (eqb m.id id) (is_of m.id (Some x)) own) in
    object_at before m id None (is_of m.id (Some x)) (gives_nothing before m id le) is ∙ rw q (if_removed (is_of m.id (Some x)) (Some x))

-- the release of a device takes it and its interfaces
pub object_device_release : (before : List Raw) (m : Raw) (e : Entry) (id : ℕ) → object before m.id ≡ Some e → e.device ≡ Some m.id → is_device e.interface ≡ true → is_release (Some e) m ≡ true → object (m ∷ before) id ≡ without m.id (object before id)
object_device_release before m e id k p other r = device_release_at before m e id k p other r (object before id) refl

-- ---- the finish and a new device

finish_cases : (a b c : Bool) (x y : Entry) (old : Option Entry) → changed (cond a (Some x) (cond b (Some y) None)) c old ≡ cond a (Some x) (cond b (Some y) (cond c None old))
finish_cases true b c x y old = refl
finish_cases false true c x y old = refl
finish_cases false false true x y old = refl
finish_cases false false false x y old = refl

pub object_finish : (before : List Raw) (m : Raw) (id : ℕ) → is_the_finish before m ≡ true →
    object (m ∷ before) id ≡ cond (eqb id connection_id) (Some (record { interface = known.Connection; version = 1; device = None }))
    (cond (eqb id seat_id) (Some (record { interface = known.Seat; version = version before known.Seat; device = None }))
    (cond (eqb id 0) None (object before id)))
unfolding introduces removes handed_over
object_finish before m id f =
    object_more before m id ∙ rw (introduces, removes, f) (finish_cases (eqb id connection_id) (eqb id seat_id) (eqb id 0) _ _ (object before id))

-- a device is made by a message to the seat, which is open, and which bears the mask
pub made_is : (before : List Raw) (m : Raw) (mask : ℕ) → made before m ≡ Some mask → ((seat_is_open before && eqb m.id seat_id) ≡ true) × (asked_mask m ≡ Some mask)
unfolding made
made_is before m mask h =
    elim (chosen (seat_is_open before && eqb m.id seat_id) _ _ _ h) [
      | inl a ↦ (a.0, bits (asked_mask m) a.1)
      | inr b ↦ absurd (none_some mask b.1)
    ]
  where
    bits : (o : Option ℕ) → not_empty o ≡ Some mask → o ≡ Some mask
    bits None e = absurd (none_some mask e)
    bits (Some n) e = elim (chosen (eqb n 0) _ _ _ e) [ inl a ↦ absurd (none_some mask a.1) | inr b ↦ b.1 ]

no_release : (o : Option Entry) (m : Raw) (mask : ℕ) → asked_mask m ≡ Some mask → is_release o m ≡ false
unfolding is_release
no_release None m mask h = refl
no_release (Some e) m mask h = mask_no_release m mask e.interface h

pub object_made : (before : List Raw) (m : Raw) (mask : ℕ) (id : ℕ) → made before m ≡ Some mask →
    object (m ∷ before) id ≡ changed (new_device before (next_id before) (interfaces_of mask) id) false (object before id)
object_made before m mask id e =
    let is = made_is before m mask e in
    let at : m.id ≡ seat_id = eqb-true m.id seat_id (and_right (seat_is_open before) (eqb m.id seat_id) is.0) in
    let f = not_finish before m (omega (arith, at)) in
    object_at before m id (new_device before (next_id before) (interfaces_of mask) id) false
    (given_by before m id f ∙ ap (λ (x : Option ℕ). given before x id) e)
    (keeps_by before m id f (no_release (introduced before m.id) m mask is.1))

-- ---- the same without words of proofs

changed_or : (i : Option Entry) (old : Option Entry) → changed i false old ≡ option_or i old
changed_or None old = refl
changed_or (Some e) old = refl

pub object_new : (before : List Raw) (m : Raw) (mask : ℕ) (id : ℕ) → made before m ≡ Some mask →
    object (m ∷ before) id ≡ option_or (new_device before (next_id before) (interfaces_of mask) id) (object before id)
object_new before m mask id h = object_made before m mask id h ∙ changed_or (new_device before (next_id before) (interfaces_of mask) id) (object before id)

changed_said : (i : Option Entry) (r : Bool) (old : Option Entry) → changed i r old ≡ unwrap_or (said i r) old
changed_said (Some e) r old = refl
changed_said None true old = refl
changed_said None false old = refl

-- what the message says of the id, or what was there
pub object_says : (before : List Raw) (m : Raw) (id : ℕ) → object (m ∷ before) id ≡ unwrap_or (says id before m) (object before id)
unfolding says
object_says before m id = object_more before m id ∙ changed_said (introduces before m id) (removes before m id) (object before id)

without_own : (device : ℕ) (o : Option Entry) → is_of device o ≡ true → without device o ≡ None
without_own device None h = refl
without_own device (Some e) h = rw h refl

without_other : (device : ℕ) (o : Option Entry) → is_of device o ≡ false → without device o ≡ o
without_other device None h = refl
without_other device (Some e) h = rw h refl

pub object_device_gone : (before : List Raw) (m : Raw) (e : Entry) (id : ℕ) → object before m.id ≡ Some e → e.device ≡ Some m.id → e.interface ≡ known.Device → is_release (Some e) m ≡ true → is_of m.id (object before id) ≡ true → object (m ∷ before) id ≡ None
object_device_gone before m e id k p i r h = object_device_release before m e id k p (ap is_device i) r ∙ without_own m.id (object before id) h

pub object_device_left : (before : List Raw) (m : Raw) (e : Entry) (id : ℕ) → object before m.id ≡ Some e → e.device ≡ Some m.id → e.interface ≡ known.Device → is_release (Some e) m ≡ true → is_of m.id (object before id) ≡ false → object (m ∷ before) id ≡ object before id
object_device_left before m e id k p i r h = object_device_release before m e id k p (ap is_device i) r ∙ without_other m.id (object before id) h
