-- Seats, devices and interfaces after one more event.
use Rattle.std.proofs.Common.{◌≡◌, ℕ, Bool, true, false, not, ◌&&◌, ◌||◌, cond, List, ◌∷◌, Option, Some, None, refl, ap, ◌∙◌}
use Rattle.std.specs.Prelude.{is_some}
use Rattle.std.specs.Option.{option_or}
use Rattle.ei_spec.specs.History.{last_said}
use Rattle.ei_spec.proofs.HistoryLaws.{said_now, said_before, lasts_more, lasts_at}
use Rattle.ei_reported.specs.Said.{Said}
use Rattle.ei_reported.specs.Standing.{seat_comes, seat_done, seat_goes, seat_pending, adds_seat, seat_added, device_comes, device_typed_by}
use Rattle.ei_reported.specs.Standing.{device_done, device_goes, announces, seat_of, device_pending, device_typed, completes, device_added, Offer}
use Rattle.ei_reported.specs.Standing.{offers, takes, is_held, if_held, interface}

-- ---- any event

pub seat_pending_more : (before : List Said) (m : Said) (seat : ℕ) → seat_pending (m ∷ before) seat ≡ (seat_comes seat m || (not (seat_done seat m || seat_goes seat m) && seat_pending before seat))
unfolding seat_pending
seat_pending_more before m seat = lasts_more (λ b m. seat_comes seat m) (λ b m. seat_done seat m || seat_goes seat m) before m

pub seat_added_more : (before : List Said) (m : Said) (seat : ℕ) → seat_added (m ∷ before) seat ≡ (adds_seat seat before m || (not (seat_goes seat m) && seat_added before seat))
unfolding seat_added
seat_added_more before m seat = lasts_more (adds_seat seat) (λ b m. seat_goes seat m) before m

pub device_pending_more : (before : List Said) (m : Said) (d : ℕ) → device_pending (m ∷ before) d ≡ (device_comes d before m || (not (device_done d m || device_goes d m) && device_pending before d))
unfolding device_pending
device_pending_more before m d = lasts_more (device_comes d) (λ b m. device_done d m || device_goes d m) before m

pub device_typed_more : (before : List Said) (m : Said) (d : ℕ) → device_typed (m ∷ before) d ≡ (device_typed_by d m || (not (device_comes d before m) && device_typed before d))
unfolding device_typed
device_typed_more before m d = lasts_more (λ b m. device_typed_by d m) (device_comes d) before m

pub device_added_more : (before : List Said) (m : Said) (d : ℕ) → device_added (m ∷ before) d ≡ (completes true d before m || (not (device_goes d m) && device_added before d))
unfolding device_added
device_added_more before m d = lasts_more (completes true d) (λ b m. device_goes d m) before m

-- after an announcement, or none
seat_of_at : (before : List Said) (m : Said) (d : ℕ) (x : Option ℕ) → announces d before m ≡ x → seat_of (m ∷ before) d ≡ option_or x (seat_of before d)
unfolding seat_of
seat_of_at before m d (Some seat) e = said_now (announces d) before m seat e
seat_of_at before m d None e = said_before (announces d) before m e

pub seat_of_more : (before : List Said) (m : Said) (d : ℕ) → seat_of (m ∷ before) d ≡ option_or (announces d before m) (seat_of before d)
seat_of_more before m d = seat_of_at before m d (announces d before m) refl

-- ---- interfaces

-- what is left of an interface
abbrev pub left : List Said → Said → ℕ → Option Offer → Option Offer
left before m id None = None
left before m id (Some o) = cond (takes id o before m) None (Some o)

-- after what is offered now, or nothing is
abbrev pub after : List Said → Said → ℕ → Option Offer → Option Offer → Option Offer
after before m id (Some o) old = Some o
after before m id None old = left before m id old

kept_at : (before : List Said) (m : Said) (id : ℕ) (o : Offer) (t : Bool) → offers id before m ≡ None → takes id o before m ≡ t → (h : Bool) → is_held id o before ≡ h → is_held id o (m ∷ before) ≡ (not t && h)
unfolding is_held
kept_at before m id o t e q h p = lasts_at (λ b m. is_some (offers id b m)) (takes id o) before m false t (ap (λ (x : Option Offer). is_some x) e) q ∙ ap (λ (x : Bool). not t && x) p

held_cases : (before : List Said) (m : Said) (id : ℕ) (o : Offer) (t h : Bool) → offers id before m ≡ None → takes id o before m ≡ t → is_held id o before ≡ h →
    if_held (m ∷ before) id (Some o) ≡ left before m id (if_held before id (Some o))
held_cases before m id o true true e q p = rw (kept_at before m id o true e q true p, p, q) refl
held_cases before m id o true false e q p = rw (kept_at before m id o true e q false p, p) refl
held_cases before m id o false true e q p = rw (kept_at before m id o false e q true p, p, q) refl
held_cases before m id o false false e q p = rw (kept_at before m id o false e q false p, p) refl

left_at : (before : List Said) (m : Said) (id : ℕ) (l : Option Offer) → offers id before m ≡ None → if_held (m ∷ before) id l ≡ left before m id (if_held before id l)
left_at before m id None e = refl
left_at before m id (Some o) e = held_cases before m id o (takes id o before m) (is_held id o before) e refl refl

new_at : (before : List Said) (m : Said) (id : ℕ) (o : Offer) → offers id before m ≡ Some o → is_held id o (m ∷ before) ≡ true
unfolding is_held
new_at before m id o e = lasts_at (λ b m. is_some (offers id b m)) (takes id o) before m true (takes id o before m) (ap (λ (x : Option Offer). is_some x) e) refl

pub interface_at : (before : List Said) (m : Said) (id : ℕ) (x : Option Offer) → offers id before m ≡ x → interface (m ∷ before) id ≡ after before m id x (interface before id)
unfolding interface
interface_at before m id (Some o) e = ap (if_held (m ∷ before) id) (said_now (offers id) before m o e) ∙ rw (new_at before m id o e) refl
interface_at before m id None e = ap (if_held (m ∷ before) id) (said_before (offers id) before m e) ∙ left_at before m id (last_said (offers id) before) e

pub interface_more : (before : List Said) (m : Said) (id : ℕ) → interface (m ∷ before) id ≡ after before m id (offers id before m) (interface before id)
interface_more before m id = interface_at before m id (offers id before m) refl
