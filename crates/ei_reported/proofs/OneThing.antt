-- Where all new ids differ, an id names one thing.
use Rattle.std.proofs.Common.{◌≡◌, ℕ, Bool, true, false, not, ◌&&◌, ◌||◌, cond, eqb, List, [], ◌∷◌, Some, None, refl, sym, ap, ◌∙◌}
use Rattle.ei_spec.specs.History.{occurs, lasts}
use Rattle.ei_spec.proofs.HistoryLaws.{occurs_before}
use Rattle.ei_reported.specs.Said.{Said, SeatComes, DeviceComes, DeviceHasType, DeviceGets, DeviceDone, DeviceGoes}
use Rattle.ei_reported.specs.Standing.{seat_comes, seat_done, seat_goes, seat_pending, seat_added, seat_of, device_done, device_goes}
use Rattle.ei_reported.specs.Standing.{announces, device_comes, device_pending, device_typed, device_added, interface}
use Rattle.ei_reported.specs.Changes.{brings, brought, NewIdsDiffer}
use Rattle.ei_reported.proofs.OneMoreEvent.{seat_pending_more, device_pending_more}
use Rattle.ei_reported.proofs.AfterEachKind.{added_after, device_added_after, seat_of_comes, seat_of_refused, seat_of_typed, seat_of_done}
use Rattle.ei_reported.proofs.AfterEachKind.{seat_of_goes, other_seat_of}
use Rattle.ei_reported.proofs.NeverBrought.{some_passes, passes_none, names_device, names_interface, brought_is, new_seat_added, new_device_added}
use Rattle.ei_reported.proofs.NeverBrought.{no_seat_pending, no_seat_added, no_device_pending, no_device_added, no_interface}

-- ---- two kinds of announcements

-- the test passes only what brings the id
abbrev IsNarrow : ℕ → (Said → Bool) → Type 0
IsNarrow id test = (m : Said) → brings id m ≡ false → test m ≡ false

both_ways : (b : Bool) → b ≡ true → b ≡ false → ⊥
both_ways true h k = absurd cc
both_ways false h k = absurd cc

brings_so : (id : ℕ) (test : Said → Bool) → IsNarrow id test → (m : Said) → test m ≡ true → brings id m ≡ true
brings_so id test f m h = by (brings id m) refl
  where
    by : (b : Bool) → brings id m ≡ b → brings id m ≡ true
    by true e = e
    by false e = absurd (both_ways (test m) h (f m e))

-- the id was brought once at most, so what passes one test before keeps all else from passing another
one_kind : (id : ℕ) (test other : Said → Bool) → IsNarrow id test → IsNarrow id other → ((m : Said) → test m ≡ true → other m ≡ false) →
    (before : List Said) → NewIdsDiffer before → some_passes test before ≡ true → some_passes other before ≡ false
unfolding occurs
one_kind id test other f g apart [] new h = absurd cc
one_kind id test other f g apart (m ∷ before) new h = by (one_kind id test other f g apart before new.1) (test m) (other m) refl refl
  where
    none_before : brings id m ≡ true → some_passes (brings id) before ≡ false
    none_before e = sym (brought_is before id) ∙ new.0 id e

    was : test m ≡ false → some_passes test before ≡ true
    was e = sym (occurs_before (λ b m. test m) before m e) ∙ h

    by : (some_passes test before ≡ true → some_passes other before ≡ false) → (a b : Bool) → test m ≡ a → other m ≡ b → some_passes other (m ∷ before) ≡ false
    by next true b e k = occurs_before (λ b m. other m) before m (apart m e) ∙ passes_none other (brings id) g before (none_before (brings_so id test f m e))
    by next false true e k = absurd (both_ways (some_passes test before) (was e) (passes_none test (brings id) f before (none_before (brings_so id other g m k))))
    by next false false e k = occurs_before (λ b m. other m) before m k ∙ next (was e)

seat_narrow : (id : ℕ) → IsNarrow id (seat_comes id)
seat_narrow id (SeatComes s) h = h
seat_narrow id m h = refl

device_narrow : (id : ℕ) → IsNarrow id (names_device id)
device_narrow id (DeviceComes s d) h = h
device_narrow id m h = refl

interface_narrow : (id : ℕ) → IsNarrow id (names_interface id)
interface_narrow id (DeviceGets d i name version) h = h
interface_narrow id m h = refl

seat_apart_device : (id : ℕ) (m : Said) → seat_comes id m ≡ true → names_device id m ≡ false
seat_apart_device id (SeatComes s) h = refl
seat_apart_device id m h = absurd cc

seat_apart_interface : (id : ℕ) (m : Said) → seat_comes id m ≡ true → names_interface id m ≡ false
seat_apart_interface id (SeatComes s) h = refl
seat_apart_interface id m h = absurd cc

device_apart_interface : (id : ℕ) (m : Said) → names_device id m ≡ true → names_interface id m ≡ false
device_apart_interface id (DeviceComes s d) h = refl
device_apart_interface id m h = absurd cc

-- ---- what is there was announced

none_of : (p a : Bool) → p ≡ false → a ≡ false → (p || a) ≡ true → ⊥
none_of true a h k e = absurd cc
none_of false true h k e = absurd cc
none_of false false h k e = absurd cc

seat_was_announced : (before : List Said) (id : ℕ) → (seat_pending before id || seat_added before id) ≡ true → some_passes (seat_comes id) before ≡ true
seat_was_announced before id h = by (some_passes (seat_comes id) before) refl
  where
    by : (b : Bool) → some_passes (seat_comes id) before ≡ b → some_passes (seat_comes id) before ≡ true
    by true e = e
    by false e = absurd (none_of (seat_pending before id) (seat_added before id) (no_seat_pending before id e) (no_seat_added before id e) h)

device_was_announced : (before : List Said) (id : ℕ) → (device_pending before id || device_added before id) ≡ true → some_passes (names_device id) before ≡ true
device_was_announced before id h = by (some_passes (names_device id) before) refl
  where
    by : (b : Bool) → some_passes (names_device id) before ≡ b → some_passes (names_device id) before ≡ true
    by true e = e
    by false e = absurd (none_of (device_pending before id) (device_added before id) (no_device_pending before id e) (no_device_added before id e) h)

neither : (p a : Bool) → p ≡ false → a ≡ false → (p || a) ≡ false
neither true a h k = absurd cc
neither false a h k = k

pub seat_no_device : (before : List Said) (id : ℕ) → NewIdsDiffer before → (seat_pending before id || seat_added before id) ≡ true → (device_pending before id || device_added before id) ≡ false
seat_no_device before id new h =
    let none = one_kind id (seat_comes id) (names_device id) (seat_narrow id) (device_narrow id) (seat_apart_device id) before new (seat_was_announced before id h) in
    neither (device_pending before id) (device_added before id) (no_device_pending before id none) (no_device_added before id none)

pub seat_no_interface : (before : List Said) (id : ℕ) → NewIdsDiffer before → (seat_pending before id || seat_added before id) ≡ true → interface before id ≡ None
seat_no_interface before id new h =
    no_interface before id (one_kind id (seat_comes id) (names_interface id) (seat_narrow id) (interface_narrow id) (seat_apart_interface id) before new (seat_was_announced before id h))

pub device_no_interface : (before : List Said) (id : ℕ) → NewIdsDiffer before → (device_pending before id || device_added before id) ≡ true → interface before id ≡ None
device_no_interface before id new h =
    no_interface before id (one_kind id (names_device id) (names_interface id) (device_narrow id) (interface_narrow id) (device_apart_interface id) before new (device_was_announced before id h))

-- ---- pending or added

-- what comes now wasn't added; what is done or goes now isn't pending any more
still_apart : (c d g p a q : Bool) → (p && a) ≡ false → (c ≡ true → (d || g) ≡ false) → (c ≡ true → a ≡ false) →
    ((c || (not (d || g) && p)) && ((d && (p && q)) || (not g && a))) ≡ false
still_apart true d g p a q h k l = by d g (k refl) (l refl)
  where
    by : (d g : Bool) → (d || g) ≡ false → a ≡ false → ((d && (p && q)) || (not g && a)) ≡ false
    by true g e n = absurd cc
    by false true e n = absurd cc
    by false false e n = n
still_apart false true g p a q h k l = refl
still_apart false false true p a q h k l = refl
still_apart false false false p a q h k l = h

seat_comes_only : (id : ℕ) (m : Said) → seat_comes id m ≡ true → (seat_done id m || seat_goes id m) ≡ false
seat_comes_only id (SeatComes s) h = refl
seat_comes_only id m h = absurd cc

and_one : (b : Bool) → (b && true) ≡ b
and_one true = refl
and_one false = refl

pub one_seat : (before : List Said) (id : ℕ) → NewIdsDiffer before → (seat_pending before id && seat_added before id) ≡ false
unfolding seat_pending lasts
one_seat [] id new = refl
one_seat (m ∷ before) id new =
    rw (seat_pending_more before m id, added_after before m id)
    (ap (λ (x : Bool). (seat_comes id m || (not (seat_done id m || seat_goes id m) && seat_pending before id)) && ((seat_done id m && x) || (not (seat_goes id m) && seat_added before id))) (sym (and_one (seat_pending before id)))
    ∙ still_apart (seat_comes id m) (seat_done id m) (seat_goes id m) (seat_pending before id) (seat_added before id) true (one_seat before id new.1) (seat_comes_only id m)
    (λ e. new_seat_added before id (new.0 id (brings_so id (seat_comes id) (seat_narrow id) m e))))

device_comes_named : (before : List Said) (id : ℕ) (m : Said) → device_comes id before m ≡ true → names_device id m ≡ true
unfolding device_comes announces
device_comes_named before id (DeviceComes s d) h = by (eqb d id) refl
  where
    by : (b : Bool) → eqb d id ≡ b → eqb d id ≡ true
    by true e = e
    by false e = absurd (both_ways (device_comes id before (DeviceComes s d)) h (rw (e, device_comes, announces) refl))
device_comes_named before id m h = absurd cc

device_named_only : (id : ℕ) (m : Said) → names_device id m ≡ true → (device_done id m || device_goes id m) ≡ false
device_named_only id (DeviceComes s d) h = refl
device_named_only id m h = absurd cc

pub one_device : (before : List Said) (id : ℕ) → NewIdsDiffer before → (device_pending before id && device_added before id) ≡ false
unfolding device_pending lasts
one_device [] id new = refl
one_device (m ∷ before) id new =
    rw (device_pending_more before m id, device_added_after before m id)
    (still_apart (device_comes id before m) (device_done id m) (device_goes id m) (device_pending before id) (device_added before id) (device_typed before id) (one_device before id new.1)
    (λ e. device_named_only id m (device_comes_named before id m e))
    (λ e. new_device_added before id (new.0 id (brings_so id (names_device id) (device_narrow id) m (device_comes_named before id m e)))))

-- ---- a device keeps its seat

pub seat_of_kept : (before : List Said) (m : Said) (device : ℕ) → NewIdsDiffer (m ∷ before) → brought before device ≡ true → seat_of (m ∷ before) device ≡ seat_of before device
seat_of_kept before (DeviceComes s d) device new h = by (seat_added before s) refl
  where
    other : (b : Bool) → eqb d device ≡ b → cond (eqb d device) (Some s) (seat_of before device) ≡ seat_of before device
    other true e = absurd (both_ways (brought before device) h (new.0 device e))
    other false e = rw e refl

    by : (a : Bool) → seat_added before s ≡ a → seat_of (DeviceComes s d ∷ before) device ≡ seat_of before device
    by true e = seat_of_comes before s d device e ∙ other (eqb d device) refl
    by false e = seat_of_refused before s d device e
seat_of_kept before (DeviceHasType d) device new h = seat_of_typed before d device
seat_of_kept before (DeviceDone d) device new h = seat_of_done before d device
seat_of_kept before (DeviceGoes d n) device new h = seat_of_goes before d n device
seat_of_kept before m device new h = other_seat_of before m device refl
