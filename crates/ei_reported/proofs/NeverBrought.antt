-- What no event brought isn't there.
use Rattle.std.proofs.Common.{◌≡◌, ℕ, Bool, true, false, not, ◌&&◌, ◌||◌, eqb, List, [], ◌∷◌, None, refl, sym, ap, ◌∙◌}
use Rattle.ei_spec.specs.History.{occurs, last_said, lasts}
use Rattle.ei_spec.proofs.HistoryLaws.{said_before, occurs_or, occurs_before, occurs_none, lasts_unless}
use Rattle.ei_reported.specs.Said.{Said, SeatComes, DeviceComes, DeviceGets}
use Rattle.ei_reported.specs.Standing.{seat_comes, seat_done, seat_goes, seat_pending, seat_added, announces, device_comes, seat_of}
use Rattle.ei_reported.specs.Standing.{device_done, device_goes, device_pending, device_typed, device_added, offers, if_held, interface}
use Rattle.ei_reported.specs.Changes.{brings, brought}
use Rattle.ei_reported.proofs.AfterEachKind.{added_after, device_added_after}

-- whether the event announces a device, or an interface, of that id
abbrev pub names_device : ℕ → Said → Bool
names_device id (DeviceComes seat d) = eqb d id
names_device id m = false

abbrev pub names_interface : ℕ → Said → Bool
names_interface id (DeviceGets d i name version) = eqb i id
names_interface id m = false

-- whether some event passes
abbrev pub some_passes : (Said → Bool) → List Said → Bool
some_passes test before = occurs (λ b m. test m) before

-- ---- a seat

pub no_seat_pending : (before : List Said) (id : ℕ) → some_passes (seat_comes id) before ≡ false → seat_pending before id ≡ false
unfolding seat_pending
no_seat_pending before id h = lasts_unless (λ b m. seat_comes id m) (λ b m. seat_done id m || seat_goes id m) (λ b m. seat_comes id m) (λ b m e. e) before h

no_more : (d g p a : Bool) → p ≡ false → a ≡ false → ((d && p) || (not g && a)) ≡ false
no_more true true p a h k = rw h refl
no_more true false p a h k = rw h k
no_more false true p a h k = refl
no_more false false p a h k = k

pub no_seat_added : (before : List Said) (id : ℕ) → some_passes (seat_comes id) before ≡ false → seat_added before id ≡ false
unfolding seat_added lasts
no_seat_added [] id h = refl
no_seat_added (m ∷ before) id h =
    let both = occurs_none (λ b m. seat_comes id m) before m h in
    added_after before m id ∙ no_more (seat_done id m) (seat_goes id m) (seat_pending before id) (seat_added before id) (no_seat_pending before id both.1) (no_seat_added before id both.1)

-- ---- a device

not_announced : (id : ℕ) (before : List Said) (m : Said) → names_device id m ≡ false → announces id before m ≡ None
unfolding announces
not_announced id before (DeviceComes s d) h = rw (h, announces) refl
not_announced id before m h = refl

not_coming : (id : ℕ) (before : List Said) (m : Said) → names_device id m ≡ false → device_comes id before m ≡ false
unfolding device_comes
not_coming id before m h = rw (not_announced id before m h, device_comes) refl

pub no_device_pending : (before : List Said) (id : ℕ) → some_passes (names_device id) before ≡ false → device_pending before id ≡ false
unfolding device_pending
no_device_pending before id h = lasts_unless (device_comes id) (λ b m. device_done id m || device_goes id m) (λ b m. names_device id m) (not_coming id) before h

and_none : (p t : Bool) → p ≡ false → (p && t) ≡ false
and_none true t h = absurd cc
and_none false t h = refl

pub no_device_added : (before : List Said) (id : ℕ) → some_passes (names_device id) before ≡ false → device_added before id ≡ false
unfolding device_added lasts
no_device_added [] id h = refl
no_device_added (m ∷ before) id h =
    let both = occurs_none (λ b m. names_device id m) before m h in
    device_added_after before m id
    ∙ no_more (device_done id m) (device_goes id m) (device_pending before id && device_typed before id) (device_added before id) (and_none (device_pending before id) (device_typed before id) (no_device_pending before id both.1)) (no_device_added before id both.1)

pub no_seat_of : (before : List Said) (id : ℕ) → some_passes (names_device id) before ≡ false → seat_of before id ≡ None
unfolding seat_of last_said
no_seat_of [] id h = refl
no_seat_of (m ∷ before) id h =
    let both = occurs_none (λ b m. names_device id m) before m h in
    said_before (announces id) before m (not_announced id before m both.0) ∙ no_seat_of before id both.1

-- ---- an interface

not_offered : (id : ℕ) (before : List Said) (m : Said) → names_interface id m ≡ false → offers id before m ≡ None
unfolding offers
not_offered id before (DeviceGets d i name version) h = rw (h, offers) refl
not_offered id before m h = refl

never_offered : (before : List Said) (id : ℕ) → some_passes (names_interface id) before ≡ false → last_said (offers id) before ≡ None
unfolding last_said
never_offered [] id h = refl
never_offered (m ∷ before) id h =
    let both = occurs_none (λ b m. names_interface id m) before m h in
    said_before (offers id) before m (not_offered id before m both.0) ∙ never_offered before id both.1

pub no_interface : (before : List Said) (id : ℕ) → some_passes (names_interface id) before ≡ false → interface before id ≡ None
unfolding interface
no_interface before id h = ap (if_held before id) (never_offered before id h)

-- ---- a new id is that of none of them

-- what passes a narrower test
pub passes_none : (test wide : Said → Bool) → ((m : Said) → wide m ≡ false → test m ≡ false) → (before : List Said) → some_passes wide before ≡ false → some_passes test before ≡ false
unfolding occurs
passes_none test wide f [] h = refl
passes_none test wide f (m ∷ before) h =
    let both = occurs_none (λ b m. wide m) before m h in
    occurs_before (λ b m. test m) before m (f m both.0) ∙ passes_none test wide f before both.1

pub brought_is : (before : List Said) (id : ℕ) → brought before id ≡ some_passes (brings id) before
unfolding brought
brought_is before id = refl

seat_narrow : (id : ℕ) (m : Said) → brings id m ≡ false → seat_comes id m ≡ false
seat_narrow id (SeatComes s) h = h
seat_narrow id m h = refl

device_narrow : (id : ℕ) (m : Said) → brings id m ≡ false → names_device id m ≡ false
device_narrow id (DeviceComes s d) h = h
device_narrow id m h = refl

interface_narrow : (id : ℕ) (m : Said) → brings id m ≡ false → names_interface id m ≡ false
interface_narrow id (DeviceGets d i name version) h = h
interface_narrow id m h = refl

pub new_seat : (before : List Said) (id : ℕ) → brought before id ≡ false → some_passes (seat_comes id) before ≡ false
new_seat before id h = passes_none (seat_comes id) (brings id) (seat_narrow id) before (sym (brought_is before id) ∙ h)

pub new_device : (before : List Said) (id : ℕ) → brought before id ≡ false → some_passes (names_device id) before ≡ false
new_device before id h = passes_none (names_device id) (brings id) (device_narrow id) before (sym (brought_is before id) ∙ h)

pub new_one : (before : List Said) (id : ℕ) → brought before id ≡ false → some_passes (names_interface id) before ≡ false
new_one before id h = passes_none (names_interface id) (brings id) (interface_narrow id) before (sym (brought_is before id) ∙ h)

pub new_seat_pending : (before : List Said) (id : ℕ) → brought before id ≡ false → seat_pending before id ≡ false
new_seat_pending before id h = no_seat_pending before id (new_seat before id h)

pub new_seat_added : (before : List Said) (id : ℕ) → brought before id ≡ false → seat_added before id ≡ false
new_seat_added before id h = no_seat_added before id (new_seat before id h)

pub new_device_pending : (before : List Said) (id : ℕ) → brought before id ≡ false → device_pending before id ≡ false
new_device_pending before id h = no_device_pending before id (new_device before id h)

pub new_device_added : (before : List Said) (id : ℕ) → brought before id ≡ false → device_added before id ≡ false
new_device_added before id h = no_device_added before id (new_device before id h)

pub new_seat_of : (before : List Said) (id : ℕ) → brought before id ≡ false → seat_of before id ≡ None
new_seat_of before id h = no_seat_of before id (new_device before id h)

pub new_interface : (before : List Said) (id : ℕ) → brought before id ≡ false → interface before id ≡ None
new_interface before id h = no_interface before id (new_one before id h)

pub brought_more : (before : List Said) (m : Said) (id : ℕ) → brought (m ∷ before) id ≡ (brings id m || brought before id)
unfolding brought
brought_more before m id = occurs_or (λ b m. brings id m) before m
