-- An interface is one of a device that is there.
use Rattle.std.proofs.Common.{◌≡◌, ℕ, Bool, true, false, not, ◌&&◌, ◌||◌, cond, eqb, List, [], ◌∷◌, Option, Some, None, refl, sym, ap, ◌∙◌}
use Rattle.std.specs.Prelude.{unwrap_or}
use Rattle.ei_spec.specs.History.{last_said}
use Rattle.ei_reported.specs.Said.{Said, DeviceGets, DeviceDone, DeviceGoes}
use Rattle.ei_reported.specs.Standing.{device_comes, device_done, device_goes, device_pending, device_typed, device_added}
use Rattle.ei_reported.specs.Standing.{Offer, offer, offers, takes, interface, if_added, holder, if_pending, is_in_setup}
use Rattle.ei_reported.proofs.OneMoreEvent.{device_pending_more, left, after, interface_more}
use Rattle.ei_reported.proofs.AfterEachKind.{device_added_after, same_seat, done_takes_at, other_device_pending}

none_some : {A : Type 0} (a : A) → ◌≡◌ {A = Option A} None (Some a) → ⊥
none_some a h = absurd cc

abbrev IsThere : List Said → Offer → Type 0
IsThere before o = (device_pending before o.device || device_added before o.device) ≡ true

is_then : (c d g p t a : Bool) → g ≡ false → (d && (p && not t)) ≡ false → (p || a) ≡ true → ((c || (not (d || g) && p)) || ((d && (p && t)) || (not g && a))) ≡ true
is_then true d g p t a h k e = refl
is_then false d true p t a h k e = absurd cc
is_then false true false true true a h k e = refl
is_then false true false true false a h k e = absurd cc
is_then false true false false t a h k e = e
is_then false false false true t a h k e = refl
is_then false false false false t a h k e = e

takes_not : (before : List Said) (m : Said) (id : ℕ) (o : Offer) → takes id o before m ≡ false →
    (device_goes o.device m ≡ false) × ((device_done o.device m && (device_pending before o.device && not (device_typed before o.device))) ≡ false)
unfolding takes
takes_not before (DeviceGoes d serial) id o h = (h, refl)
takes_not before (DeviceDone d) id o h = (
  refl,
  same_seat (λ x. device_pending before x && not (device_typed before x)) d o.device (eqb d o.device) (device_pending before d && not (device_typed before d)) refl refl
      ∙ sym (done_takes_at before d id o (eqb d o.device) (device_pending before d) refl refl) ∙ h,
)
takes_not before m id o h = (refl, refl)

stays_there : (before : List Said) (m : Said) (id : ℕ) (o : Offer) → takes id o before m ≡ false → IsThere before o → IsThere (m ∷ before) o
stays_there before m id o h there =
    let no = takes_not before m id o h in
    rw (device_pending_more before m o.device, device_added_after before m o.device)
    (is_then (device_comes o.device before m) (device_done o.device m) (device_goes o.device m) (device_pending before o.device) (device_typed before o.device) (device_added before o.device) no.0 no.1 there)

-- what is left was there, and isn't taken
left_was : (before : List Said) (m : Said) (id : ℕ) (l : Option Offer) (o : Offer) → left before m id l ≡ Some o → (l ≡ Some o) × (takes id o before m ≡ false)
left_was before m id None o h = absurd (none_some o h)
left_was before m id (Some x) o h = by (takes id x before m) refl
  where
    by : (b : Bool) → takes id x before m ≡ b → (◌≡◌ {A = Option Offer} (Some x) (Some o)) × (takes id o before m ≡ false)
    by true e = absurd (none_some o (sym (rw e refl) ∙ h))
    by false e = let same : ◌≡◌ {A = Option Offer} (Some x) (Some o) = sym (rw e refl) ∙ h in
        (same, sym (ap (λ (y : Option Offer). takes id (unwrap_or y x) before m) same) ∙ e)

offered_there : (before : List Said) (m : Said) (id : ℕ) (o : Offer) → offers id before m ≡ Some o → IsThere (m ∷ before) o
unfolding offers
offered_there before (DeviceGets d i name version) id o h = by (eqb i id) (device_pending before d) refl refl
  where
    by : (b p : Bool) → eqb i id ≡ b → device_pending before d ≡ p → IsThere (DeviceGets d i name version ∷ before) o
    by true true e q =
        let same : ◌≡◌ {A = Option Offer} (Some (offer d name version)) (Some o) = sym (rw (e, q, offers) refl) ∙ h in
        let dev : d ≡ o.device = ap (λ (y : Option Offer). (unwrap_or y o).device) same in
        let p : device_pending before o.device ≡ true = sym (ap (device_pending before) dev) ∙ q in
        rw (other_device_pending before (DeviceGets d i name version) o.device refl, p) refl
    by true false e q = absurd (none_some o (sym (rw (e, q, offers) refl) ∙ h))
    by false p e q = absurd (none_some o (sym (rw (e, offers) refl) ∙ h))
offered_there before m id o h = absurd (none_some o h)

pub interface_there : (before : List Said) (id : ℕ) (o : Offer) → interface before id ≡ Some o → IsThere before o
unfolding interface last_said
interface_there [] id o h = absurd (none_some o h)
interface_there (m ∷ before) id o h = by (interface_there before id o) (offers id before m) refl
  where
    by : (interface before id ≡ Some o → IsThere before o) → (x : Option Offer) → offers id before m ≡ x → IsThere (m ∷ before) o
    by next (Some y) e = offered_there before m id o (e ∙ sym (ap (λ (x : Option Offer). after before m id x (interface before id)) e) ∙ sym (interface_more before m id) ∙ h)
    by next None e =
        let was = left_was before m id (interface before id) o (sym (ap (λ (x : Option Offer). after before m id x (interface before id)) e) ∙ sym (interface_more before m id) ∙ h) in
        stays_there before m id o was.1 (next was.0)

held_added : (before : List Said) (l : Option Offer) (d : ℕ) → if_added before l ≡ Some d → device_added before d ≡ true
held_added before None d h = absurd (none_some d h)
held_added before (Some o) d h = by (device_added before o.device) refl
  where
    by : (b : Bool) → device_added before o.device ≡ b → device_added before d ≡ true
    by true e = let same : ◌≡◌ {A = Option ℕ} (Some o.device) (Some d) = sym (rw e refl) ∙ h in
        sym (ap (λ (y : Option ℕ). device_added before (unwrap_or y d)) same) ∙ e
    by false e = absurd (none_some d (sym (rw e refl) ∙ h))

pub holder_added : (before : List Said) (id d : ℕ) → holder before id ≡ Some d → device_added before d ≡ true
unfolding holder
holder_added before id d h = held_added before (interface before id) d h

pub holder_none : (before : List Said) (id : ℕ) → interface before id ≡ None → holder before id ≡ None
unfolding holder
holder_none before id h = ap (if_added before) h

pub setup_pending : (before : List Said) (id : ℕ) (o : Offer) → interface before id ≡ Some o → is_in_setup before id ≡ device_pending before o.device
unfolding is_in_setup
setup_pending before id o h = ap (if_pending before) h

pub holder_held : (before : List Said) (id : ℕ) (o : Offer) → interface before id ≡ Some o → holder before id ≡ cond (device_added before o.device) (Some o.device) None
unfolding holder
holder_held before id o h = ap (if_added before) h

pub setup_none : (before : List Said) (id : ℕ) → interface before id ≡ None → is_in_setup before id ≡ false
unfolding is_in_setup
setup_none before id h = ap (if_pending before) h
