-- The mask of a device, by the messages and by what was given: it is the same, and it stays.
use Rattle.std.proofs.Common.{◌≡◌, ℕ, ◌+◌, ◌<◌, Bool, true, false, eqb, List, [], ◌∷◌, Option, Some, None, refl, ap, sym, ◌∙◌, arith}
use Rattle.std.proofs.lemmas.Bool.{eqb-true}
use Rattle.std.proofs.lemmas.Bool.Decides.{nat_tests}
use Rattle.ei_spec.specs.Message.{Raw}
use Rattle.ei_spec.specs.History.{last_said, total, each}
use Rattle.ei_spec.specs.Groups.{Timed, Framed, Plain as Given, Input as Waiting, Frame, Other, Free}
use Rattle.ei_input.specs.declared.input_event.InputEvent.{InputEvent}
use Rattle.ei_session.specs.Setup.{Setup}
use Rattle.ei_session.specs.Handshake.{connected}
use Rattle.ei_session.specs.Devices.{made, not_empty, ids_of, next_id}
use Rattle.ei_session.specs.Requests.{Request, Plain, Asking, item, slot}
use Rattle.ei_session.proofs.Choices.{none_some}
use Rattle.ei_session.proofs.ObjectShape.{next_id_more}
use Rattle.ei_session.proofs.DeviceRange.{ids_some}
use Rattle.ei_record.specs.Replayable.{mask_of, if_it, takes_ids, gives_mask, mask_before, next_device}
use Rattle.ei_record.proofs.Lists.{onto}
use Rattle.ei_record.proofs.Masks.{item_mask}
use Rattle.ei_record.proofs.NextIds.{by_connection, next_same}
use Rattle.ei_record.proofs.Parts.{back, plains, gives_same, back_none, back_more}

-- the mask that a message gives the device
unfoldable pub makes_mask : ℕ → List Raw → Raw → Option ℕ
makes_mask d past m = if_it d (next_id past) (made past m)

-- the mask of the device, where it was made
unfoldable pub mask_made_of : List Raw → ℕ → Option ℕ
mask_made_of past d = last_said (makes_mask d) past

abbrev pub or_else : Option ℕ → Option ℕ → Option ℕ
or_else o p = elim o [ Some a ↦ Some a | None ↦ p ]

pub made_more : (past : List Raw) (m : Raw) (d : ℕ) → mask_made_of (m ∷ past) d ≡ or_else (if_it d (next_id past) (made past m)) (mask_made_of past d)
unfolding mask_made_of makes_mask last_said
made_more past m d = refl

none_of : (d : ℕ) → mask_made_of [] d ≡ None
unfolding mask_made_of last_said
none_of d = refl

-- ---- a device that was made is below the next

below_case : (past : List Raw) (m : Raw) (d mask : ℕ) (o : Option ℕ) (b : Bool) → made past m ≡ o → eqb (next_id past) d ≡ b → (mask_made_of past d ≡ Some mask → d < next_id past) →
    or_else (if_it d (next_id past) o) (mask_made_of past d) ≡ Some mask → d < next_id (m ∷ past)
below_case past m d mask None b e q ih h = omega (arith, ih h, next_id_more past m)
below_case past m d mask (Some k) true e q ih h = omega (arith, eqb-true (next_id past) d q, next_id_more past m, ids_some past m k e)
below_case past m d mask (Some k) false e q ih h = omega (arith, ih (sym (rw q refl) ∙ h), next_id_more past m)

pub mask_below : (past : List Raw) (d mask : ℕ) → mask_made_of past d ≡ Some mask → d < next_id past
mask_below [] d mask h = absurd (none_some mask (sym (none_of d) ∙ h))
mask_below (m ∷ past) d mask h = below_case past m d mask (made past m) (eqb (next_id past) d) refl refl (mask_below past d mask) (sym (made_more past m d) ∙ h)

-- and keeps its mask
stays_case : (past : List Raw) (m : Raw) (d mask : ℕ) (o : Option ℕ) → d < next_id past → mask_made_of past d ≡ Some mask → or_else (if_it d (next_id past) o) (mask_made_of past d) ≡ Some mask
stays_case past m d mask None low h = h
stays_case past m d mask (Some k) low h = let far : eqb (next_id past) d ≡ false = grind (arith, nat_tests) in rw far h

pub mask_stays : (past : List Raw) (m : Raw) (d mask : ℕ) → mask_made_of past d ≡ Some mask → mask_made_of (m ∷ past) d ≡ Some mask
mask_stays past m d mask h = made_more past m d ∙ stays_case past m d mask (made past m) (mask_below past d mask h) h

pub mask_new : (past : List Raw) (m : Raw) (mask : ℕ) → made past m ≡ Some mask → mask_made_of (m ∷ past) (next_id past) ≡ Some mask
mask_new past m mask e =
    let here : eqb (next_id past) (next_id past) ≡ true = grind (arith, nat_tests) in
    made_more past m (next_id past) ∙ rw (e, here) refl

-- ---- as given

mask_one : (before : List Request) (y : Plain) (d : ℕ) → mask_before (Given y ∷ before) d ≡ or_else (if_it d (next_device before) (not_empty (mask_of (Given y)))) (mask_before before d)
unfolding mask_before last_said gives_mask
mask_one before y d = refl

mask_input : (before : List Request) (e : ℕ) (x : InputEvent) (t d : ℕ) → mask_before (Timed e x t ∷ before) d ≡ mask_before before d
unfolding mask_before last_said gives_mask
mask_input before e x t d = refl

mask_frame : (before : List Request) (e s t d : ℕ) → mask_before (Framed e s t ∷ before) d ≡ mask_before before d
unfolding mask_before last_said gives_mask
mask_frame before e s t d = refl

next_one : (before : List Request) (y : Plain) → next_device (Given y ∷ before) ≡ next_device before + ids_of (not_empty (mask_of (Given y)))
unfolding next_device total takes_ids
next_one before y = omega arith

next_input : (before : List Request) (e : ℕ) (x : InputEvent) (t : ℕ) → next_device (Timed e x t ∷ before) ≡ next_device before
unfolding next_device total takes_ids
next_input before e x t = omega arith

next_frame : (before : List Request) (e s t : ℕ) → next_device (Framed e s t ∷ before) ≡ next_device before
unfolding next_device total takes_ids
next_frame before e s t = omega arith

abbrev of : ℕ → Option ℕ → ℕ × Option ℕ
of n o = (n, o)

-- both at once: the id of the next device, and the mask of this one
abbrev both : ℕ → List Request → ℕ × Option ℕ
both d before = of (next_device before) (mask_before before d)

pair : (a b : ℕ) (c d : Option ℕ) → a ≡ b → c ≡ d → of a c ≡ of b d
pair a b c d e f = rw (e, f) refl

one_more : (d : ℕ) (y : Plain) (a b : List Request) → both d a ≡ both d b → both d (Given y ∷ a) ≡ both d (Given y ∷ b)
one_more d y a b h =
    let next : next_device a ≡ next_device b = ap (λ (p : ℕ × Option ℕ). p.0) h in
    let mask : mask_before a d ≡ mask_before b d = ap (λ (p : ℕ × Option ℕ). p.1) h in
    pair _ _ _ _ (next_one a y ∙ ap (λ (n : ℕ). n + ids_of (not_empty (mask_of (Given y)))) next ∙ sym (next_one b y))
    (mask_one a y d ∙ ap (λ (n : ℕ). or_else (if_it d n (not_empty (mask_of (Given y)))) (mask_before a d)) next
    ∙ ap (λ (o : Option ℕ). or_else (if_it d (next_device b) (not_empty (mask_of (Given y)))) o) mask ∙ sym (mask_one b y d))

both_input : (d : ℕ) (before : List Request) (e : ℕ) (x : InputEvent) (t : ℕ) → both d (Timed e x t ∷ before) ≡ both d before
both_input d before e x t = pair _ _ _ _ (next_input before e x t) (mask_input before e x t d)

both_frame : (d : ℕ) (before : List Request) (e s t : ℕ) → both d (Framed e s t ∷ before) ≡ both d before
both_frame d before e s t = pair _ _ _ _ (next_frame before e s t) (mask_frame before e s t d)

plain_case : (d : ℕ) (i : Option Asking) (before : List Request) → ((e : ℕ) (y : Plain) → i ≡ Some (Other e y) → mask_of (Given y) ≡ None) →
    mask_before (onto (plains i) before) d ≡ or_else (if_it d (next_device before) (not_empty (item_mask i))) (mask_before before d)
plain_case d None before quiet = refl
plain_case d (Some (Waiting e x)) before quiet = refl
plain_case d (Some (Frame e s t)) before quiet = refl
plain_case d (Some (Other e y)) before quiet = mask_one before y d ∙ ap (λ (o : Option ℕ). or_else (if_it d (next_device before) (not_empty o)) (mask_before before d)) (quiet e y refl)
plain_case d (Some (Free y)) before quiet = mask_one before y d

nothing_made : (d : ℕ) → mask_before [] d ≡ None
unfolding mask_before last_said
nothing_made d = refl

-- the mask of a device of what was given is that of the messages
pub same_mask : (setup : Setup) (readings : List ℕ) (past : List Raw) (d : ℕ) → mask_before (back setup readings past) d ≡ mask_made_of past d
same_mask setup readings [] d = ap (λ (l : List Request). mask_before l d) (back_none setup readings) ∙ nothing_made d ∙ sym (none_of d)
same_mask setup readings (m ∷ past) d =
    let before = back setup readings past in
    let p = by_connection past m (connected past) refl in
    let whole = gives_same (both d) (both_input d) (both_frame d) (one_more d) readings (each (slot setup) past) (slot setup past m).serial (item past m) before in
    ap (λ (l : List Request). mask_before l d) (back_more setup readings past m)
    ∙ ap (λ (q : ℕ × Option ℕ). q.1) whole
    ∙ plain_case d (item past m) before p.quiet
    ∙ ap (λ (o : Option ℕ). or_else (if_it d (next_device before) o) (mask_before before d)) p.same
    ∙ ap (λ (n : ℕ). or_else (if_it d n (made past m)) (mask_before before d)) (next_same setup readings past)
    ∙ ap (λ (o : Option ℕ). or_else (if_it d (next_id past) (made past m)) o) (same_mask setup readings past d)
    ∙ sym (made_more past m d)
