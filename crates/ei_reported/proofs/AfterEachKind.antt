-- Seats, devices and interfaces after an event of each kind.
use Rattle.std.proofs.Common.{◌≡◌, ℕ, Bool, true, false, not, ◌&&◌, ◌||◌, cond, eqb, List, [], ◌∷◌, Option, Some, None, refl, sym, ap, ◌∙◌}
use Rattle.std.proofs.lemmas.Bool.{eqb-true, eq-eqb}
use Rattle.std.specs.Prelude.{is_some}
use Rattle.std.specs.Option.{option_or}
use Rattle.std.specs.Str.{bytes_eq}
use Rattle.ei_spec.specs.History.{lasts}
use Rattle.ei_spec.specs.declared.interface.KnownInterface.{KnownInterface}
use Rattle.ei_reported.specs.Said.{Said, SeatComes, SeatDone, SeatGoes, DeviceComes, DeviceHasType, DeviceGets, DeviceDone, DeviceGoes, Goes}
use Rattle.ei_reported.specs.Standing.{seat_pending, seat_done, seat_goes, device_done, device_goes, adds_seat, seat_added, announces, device_comes}
use Rattle.ei_reported.specs.Standing.{seat_of, device_pending, device_typed, completes, device_added, Offer, offer, offers, takes, interface}
use Rattle.ei_reported.specs.Standing.{if_added, holder}
use Rattle.ei_reported.specs.Changes.{moves_seat, moves_device, moves_interface, unless_of, unless_named}
use Rattle.ei_reported.proofs.OneMoreEvent.{seat_pending_more, seat_added_more, seat_of_more, device_pending_more, device_typed_more}
use Rattle.ei_reported.proofs.OneMoreEvent.{device_added_more, left, interface_at}

-- ---- choices

starts_if : (b p : Bool) → (b || p) ≡ cond b true p
starts_if true p = refl
starts_if false p = refl

ends_if : (b p : Bool) → (not b && p) ≡ cond b false p
ends_if true p = refl
ends_if false p = refl

or_none : (b : Bool) → (b || false) ≡ b
or_none true = refl
or_none false = refl

off_if : (b p : Bool) → (not (b || false) && p) ≡ cond b false p
off_if true p = refl
off_if false p = refl

-- ---- seats

pub pending_comes : (before : List Said) (s seat : ℕ) → seat_pending (SeatComes s ∷ before) seat ≡ cond (eqb s seat) true (seat_pending before seat)
pending_comes before s seat = seat_pending_more before (SeatComes s) seat ∙ starts_if (eqb s seat) (seat_pending before seat)

pub pending_done : (before : List Said) (s seat : ℕ) → seat_pending (SeatDone s ∷ before) seat ≡ cond (eqb s seat) false (seat_pending before seat)
pending_done before s seat = seat_pending_more before (SeatDone s) seat ∙ off_if (eqb s seat) (seat_pending before seat)

pub pending_goes : (before : List Said) (s serial seat : ℕ) → seat_pending (SeatGoes s serial ∷ before) seat ≡ cond (eqb s seat) false (seat_pending before seat)
pending_goes before s serial seat = seat_pending_more before (SeatGoes s serial) seat ∙ ends_if (eqb s seat) (seat_pending before seat)

adds_at : (before : List Said) (seat : ℕ) (m : Said) (b : Bool) → seat_done seat m ≡ b → adds_seat seat before m ≡ (b && seat_pending before seat)
unfolding adds_seat
adds_at before seat m true e = rw (e, adds_seat) refl
adds_at before seat m false e = rw (e, adds_seat) refl

-- a seat is added where it is done while it is pending
pub adds : (before : List Said) (seat : ℕ) (m : Said) → adds_seat seat before m ≡ (seat_done seat m && seat_pending before seat)
adds before seat m = adds_at before seat m (seat_done seat m) refl

pub added_after : (before : List Said) (m : Said) (seat : ℕ) → seat_added (m ∷ before) seat ≡ ((seat_done seat m && seat_pending before seat) || (not (seat_goes seat m) && seat_added before seat))
added_after before m seat = seat_added_more before m seat ∙ ap (λ (x : Bool). x || (not (seat_goes seat m) && seat_added before seat)) (adds before seat m)

-- a seat that is the one is like it
pub same_seat : (f : ℕ → Bool) (s seat : ℕ) (b p : Bool) → eqb s seat ≡ b → f s ≡ p → (b && f seat) ≡ (b && p)
same_seat f s seat true p e h = sym (ap f (eqb-true s seat e)) ∙ h
same_seat f s seat false p e h = refl

added_if : (p q b r : Bool) → p ≡ (b && q) → q ≡ true → (p || r) ≡ cond b true r
added_if p q true r h e = rw (h, e) refl
added_if p q false r h e = rw h refl

pub added_done : (before : List Said) (s seat : ℕ) → seat_pending before s ≡ true → seat_added (SeatDone s ∷ before) seat ≡ cond (eqb s seat) true (seat_added before seat)
added_done before s seat h = added_after before (SeatDone s) seat ∙ added_if _ true (eqb s seat) (seat_added before seat) (same_seat (seat_pending before) s seat (eqb s seat) true refl h) refl

refused_if : (p b r : Bool) → p ≡ (b && false) → (p || r) ≡ r
refused_if p true r h = rw h refl
refused_if p false r h = rw h refl

pub added_refused : (before : List Said) (s seat : ℕ) → seat_pending before s ≡ false → seat_added (SeatDone s ∷ before) seat ≡ seat_added before seat
added_refused before s seat h = added_after before (SeatDone s) seat ∙ refused_if _ (eqb s seat) (seat_added before seat) (same_seat (seat_pending before) s seat (eqb s seat) false refl h)

pub added_goes : (before : List Said) (s serial seat : ℕ) → seat_added (SeatGoes s serial ∷ before) seat ≡ cond (eqb s seat) false (seat_added before seat)
added_goes before s serial seat = added_after before (SeatGoes s serial) seat ∙ ends_if (eqb s seat) (seat_added before seat)

pub added_comes : (before : List Said) (s seat : ℕ) → seat_added (SeatComes s ∷ before) seat ≡ seat_added before seat
added_comes before s seat = added_after before (SeatComes s) seat

-- ---- events that move nothing

-- an event that moves no seat
pub other_seat_pending : (before : List Said) (m : Said) (seat : ℕ) → moves_seat m ≡ false → seat_pending (m ∷ before) seat ≡ seat_pending before seat
other_seat_pending before (SeatComes s) seat h = absurd cc
other_seat_pending before (SeatDone s) seat h = absurd cc
other_seat_pending before (SeatGoes s n) seat h = absurd cc
other_seat_pending before m seat h = seat_pending_more before m seat

pub other_seat_added : (before : List Said) (m : Said) (seat : ℕ) → moves_seat m ≡ false → seat_added (m ∷ before) seat ≡ seat_added before seat
other_seat_added before (SeatComes s) seat h = absurd cc
other_seat_added before (SeatDone s) seat h = absurd cc
other_seat_added before (SeatGoes s n) seat h = absurd cc
other_seat_added before m seat h = added_after before m seat

-- ---- devices

pub comes_at : (before : List Said) (seat d device : ℕ) (b : Bool) → eqb d device ≡ b → device_comes device before (DeviceComes seat d) ≡ (b && seat_added before seat)
unfolding device_comes announces
comes_at before seat d device true e = by (seat_added before seat) refl
  where
    by : (a : Bool) → seat_added before seat ≡ a → device_comes device before (DeviceComes seat d) ≡ (true && seat_added before seat)
    by true h = rw (e, h, announces) refl
    by false h = rw (e, h, announces) refl
comes_at before seat d device false e = rw (e, announces) refl

-- no other event brings a device
comes_not : (before : List Said) (device : ℕ) (m : Said) → ((seat d : ℕ) → m ≡ DeviceComes seat d → ⊥) → device_comes device before m ≡ false
unfolding device_comes announces
comes_not before device (DeviceComes seat d) h = absurd (h seat d refl)
comes_not before device m h = refl

completes_at : (t : Bool) (before : List Said) (device : ℕ) (m : Said) (b p : Bool) → device_done device m ≡ b → device_pending before device ≡ p → completes t device before m ≡ (b && (p && cond t (device_typed before device) (not (device_typed before device))))
unfolding completes
completes_at t before device m true true e h = rw (e, h, completes) refl
completes_at t before device m true false e h = rw (e, h, completes) refl
completes_at t before device m false p e h = rw (e, completes) refl

-- a device is completed where it is done while it is pending
pub completes_is : (t : Bool) (before : List Said) (device : ℕ) (m : Said) → completes t device before m ≡ (device_done device m && (device_pending before device && cond t (device_typed before device) (not (device_typed before device))))
completes_is t before device m = completes_at t before device m (device_done device m) (device_pending before device) refl refl

pub device_added_after : (before : List Said) (m : Said) (d : ℕ) → device_added (m ∷ before) d ≡ ((device_done d m && (device_pending before d && device_typed before d)) || (not (device_goes d m) && device_added before d))
device_added_after before m d = device_added_more before m d ∙ ap (λ (x : Bool). x || (not (device_goes d m) && device_added before d)) (completes_is true before d m)

-- ---- a device comes

came_if : (b a p : Bool) → a ≡ true → ((b && a) || p) ≡ cond b true p
came_if true a p h = rw h refl
came_if false a p h = refl

stays_if : (b a p : Bool) → a ≡ false → ((b && a) || p) ≡ p
stays_if true a p h = rw h refl
stays_if false a p h = refl

untyped_if : (b a p : Bool) → a ≡ true → (not (b && a) && p) ≡ cond b false p
untyped_if true a p h = rw h refl
untyped_if false a p h = refl

typed_stays_if : (b a p : Bool) → a ≡ false → (not (b && a) && p) ≡ p
typed_stays_if true a p h = rw h refl
typed_stays_if false a p h = refl

pending_at_comes : (before : List Said) (seat d device : ℕ) → device_pending (DeviceComes seat d ∷ before) device ≡ ((eqb d device && seat_added before seat) || device_pending before device)
pending_at_comes before seat d device = device_pending_more before (DeviceComes seat d) device ∙ ap (λ (x : Bool). x || device_pending before device) (comes_at before seat d device (eqb d device) refl)

typed_at_comes : (before : List Said) (seat d device : ℕ) → device_typed (DeviceComes seat d ∷ before) device ≡ (not (eqb d device && seat_added before seat) && device_typed before device)
typed_at_comes before seat d device = device_typed_more before (DeviceComes seat d) device ∙ ap (λ (x : Bool). not x && device_typed before device) (comes_at before seat d device (eqb d device) refl)

pub device_comes_pending : (before : List Said) (seat d device : ℕ) → seat_added before seat ≡ true → device_pending (DeviceComes seat d ∷ before) device ≡ cond (eqb d device) true (device_pending before device)
device_comes_pending before seat d device h = pending_at_comes before seat d device ∙ came_if (eqb d device) (seat_added before seat) (device_pending before device) h

pub device_comes_typed : (before : List Said) (seat d device : ℕ) → seat_added before seat ≡ true → device_typed (DeviceComes seat d ∷ before) device ≡ cond (eqb d device) false (device_typed before device)
device_comes_typed before seat d device h = typed_at_comes before seat d device ∙ untyped_if (eqb d device) (seat_added before seat) (device_typed before device) h

pub device_refused_pending : (before : List Said) (seat d device : ℕ) → seat_added before seat ≡ false → device_pending (DeviceComes seat d ∷ before) device ≡ device_pending before device
device_refused_pending before seat d device h = pending_at_comes before seat d device ∙ stays_if (eqb d device) (seat_added before seat) (device_pending before device) h

pub device_refused_typed : (before : List Said) (seat d device : ℕ) → seat_added before seat ≡ false → device_typed (DeviceComes seat d ∷ before) device ≡ device_typed before device
device_refused_typed before seat d device h = typed_at_comes before seat d device ∙ typed_stays_if (eqb d device) (seat_added before seat) (device_typed before device) h

pub device_comes_added : (before : List Said) (seat d device : ℕ) → device_added (DeviceComes seat d ∷ before) device ≡ device_added before device
device_comes_added before seat d device = device_added_after before (DeviceComes seat d) device

-- ---- a device is typed, done, and goes

pub device_types : (before : List Said) (d device : ℕ) → device_typed (DeviceHasType d ∷ before) device ≡ cond (eqb d device) true (device_typed before device)
unfolding device_comes announces
device_types before d device = device_typed_more before (DeviceHasType d) device ∙ starts_if (eqb d device) (device_typed before device)

pub device_types_pending : (before : List Said) (d device : ℕ) → device_pending (DeviceHasType d ∷ before) device ≡ device_pending before device
unfolding device_comes announces
device_types_pending before d device = device_pending_more before (DeviceHasType d) device

pub device_types_added : (before : List Said) (d device : ℕ) → device_added (DeviceHasType d ∷ before) device ≡ device_added before device
device_types_added before d device = device_added_after before (DeviceHasType d) device

pub device_done_pending : (before : List Said) (d device : ℕ) → device_pending (DeviceDone d ∷ before) device ≡ cond (eqb d device) false (device_pending before device)
unfolding device_comes announces
device_done_pending before d device = device_pending_more before (DeviceDone d) device ∙ off_if (eqb d device) (device_pending before device)

pub device_done_typed : (before : List Said) (d device : ℕ) → device_typed (DeviceDone d ∷ before) device ≡ device_typed before device
unfolding device_comes announces
device_done_typed before d device = device_typed_more before (DeviceDone d) device

pub device_done_added : (before : List Said) (d device : ℕ) → device_pending before d ≡ true → device_typed before d ≡ true → device_added (DeviceDone d ∷ before) device ≡ cond (eqb d device) true (device_added before device)
device_done_added before d device p t =
    device_added_after before (DeviceDone d) device
    ∙ added_if _ true (eqb d device) (device_added before device) (same_seat (λ x. device_pending before x && device_typed before x) d device (eqb d device) true refl (rw (p, t) refl)) refl

pub device_done_dropped : (before : List Said) (d device : ℕ) → (device_pending before d && device_typed before d) ≡ false → device_added (DeviceDone d ∷ before) device ≡ device_added before device
device_done_dropped before d device h =
    device_added_after before (DeviceDone d) device
    ∙ refused_if _ (eqb d device) (device_added before device) (same_seat (λ x. device_pending before x && device_typed before x) d device (eqb d device) false refl h)

pub device_goes_pending : (before : List Said) (d serial device : ℕ) → device_pending (DeviceGoes d serial ∷ before) device ≡ cond (eqb d device) false (device_pending before device)
unfolding device_comes announces
device_goes_pending before d serial device = device_pending_more before (DeviceGoes d serial) device ∙ ends_if (eqb d device) (device_pending before device)

pub device_goes_typed : (before : List Said) (d serial device : ℕ) → device_typed (DeviceGoes d serial ∷ before) device ≡ device_typed before device
unfolding device_comes announces
device_goes_typed before d serial device = device_typed_more before (DeviceGoes d serial) device

pub device_goes_added : (before : List Said) (d serial device : ℕ) → device_added (DeviceGoes d serial ∷ before) device ≡ cond (eqb d device) false (device_added before device)
device_goes_added before d serial device = device_added_after before (DeviceGoes d serial) device ∙ ends_if (eqb d device) (device_added before device)

pub other_device_pending : (before : List Said) (m : Said) (device : ℕ) → moves_device m ≡ false → device_pending (m ∷ before) device ≡ device_pending before device
unfolding device_comes announces
other_device_pending before (DeviceComes s d) device h = absurd cc
other_device_pending before (DeviceHasType d) device h = absurd cc
other_device_pending before (DeviceDone d) device h = absurd cc
other_device_pending before (DeviceGoes d n) device h = absurd cc
other_device_pending before m device h = device_pending_more before m device

pub other_device_typed : (before : List Said) (m : Said) (device : ℕ) → moves_device m ≡ false → device_typed (m ∷ before) device ≡ device_typed before device
unfolding device_comes announces
other_device_typed before (DeviceComes s d) device h = absurd cc
other_device_typed before (DeviceHasType d) device h = absurd cc
other_device_typed before (DeviceDone d) device h = absurd cc
other_device_typed before (DeviceGoes d n) device h = absurd cc
other_device_typed before m device h = device_typed_more before m device

pub other_device_added : (before : List Said) (m : Said) (device : ℕ) → moves_device m ≡ false → device_added (m ∷ before) device ≡ device_added before device
other_device_added before (DeviceComes s d) device h = absurd cc
other_device_added before (DeviceHasType d) device h = absurd cc
other_device_added before (DeviceDone d) device h = absurd cc
other_device_added before (DeviceGoes d n) device h = absurd cc
other_device_added before m device h = device_added_after before m device

-- ---- the seat of a device

announces_at : (before : List Said) (seat d device : ℕ) (b a : Bool) → eqb d device ≡ b → seat_added before seat ≡ a → announces device before (DeviceComes seat d) ≡ cond (b && a) (Some seat) None
unfolding announces
announces_at before seat d device true true e h = rw (e, h, announces) refl
announces_at before seat d device true false e h = rw (e, h, announces) refl
announces_at before seat d device false a e h = rw (e, announces) refl

or_if : (b : Bool) (seat : ℕ) (old : Option ℕ) → option_or (cond b (Some seat) None) old ≡ cond b (Some seat) old
or_if true seat old = refl
or_if false seat old = refl

seat_of_by : (before : List Said) (seat d device : ℕ) → seat_of (DeviceComes seat d ∷ before) device ≡ cond (eqb d device && seat_added before seat) (Some seat) (seat_of before device)
seat_of_by before seat d device =
    seat_of_more before (DeviceComes seat d) device
    ∙ ap (λ (x : Option ℕ). option_or x (seat_of before device)) (announces_at before seat d device (eqb d device) (seat_added before seat) refl refl)
    ∙ or_if (eqb d device && seat_added before seat) seat (seat_of before device)

if_all : (b a : Bool) (x y : Option ℕ) → a ≡ true → cond (b && a) x y ≡ cond b x y
if_all true a x y h = rw h refl
if_all false a x y h = refl

if_none : (b a : Bool) (x y : Option ℕ) → a ≡ false → cond (b && a) x y ≡ y
if_none true a x y h = rw h refl
if_none false a x y h = refl

pub seat_of_comes : (before : List Said) (seat d device : ℕ) → seat_added before seat ≡ true → seat_of (DeviceComes seat d ∷ before) device ≡ cond (eqb d device) (Some seat) (seat_of before device)
seat_of_comes before seat d device h = seat_of_by before seat d device ∙ if_all (eqb d device) (seat_added before seat) (Some seat) (seat_of before device) h

pub seat_of_refused : (before : List Said) (seat d device : ℕ) → seat_added before seat ≡ false → seat_of (DeviceComes seat d ∷ before) device ≡ seat_of before device
seat_of_refused before seat d device h = seat_of_by before seat d device ∙ if_none (eqb d device) (seat_added before seat) (Some seat) (seat_of before device) h

-- an event that is no announcement
seat_of_same : (before : List Said) (m : Said) (device : ℕ) → announces device before m ≡ None → seat_of (m ∷ before) device ≡ seat_of before device
seat_of_same before m device e = seat_of_more before m device ∙ ap (λ (x : Option ℕ). option_or x (seat_of before device)) e

pub seat_of_typed : (before : List Said) (d device : ℕ) → seat_of (DeviceHasType d ∷ before) device ≡ seat_of before device
unfolding announces
seat_of_typed before d device = seat_of_same before (DeviceHasType d) device refl

pub seat_of_done : (before : List Said) (d device : ℕ) → seat_of (DeviceDone d ∷ before) device ≡ seat_of before device
unfolding announces
seat_of_done before d device = seat_of_same before (DeviceDone d) device refl

pub seat_of_goes : (before : List Said) (d serial device : ℕ) → seat_of (DeviceGoes d serial ∷ before) device ≡ seat_of before device
unfolding announces
seat_of_goes before d serial device = seat_of_same before (DeviceGoes d serial) device refl

pub other_seat_of : (before : List Said) (m : Said) (device : ℕ) → moves_device m ≡ false → seat_of (m ∷ before) device ≡ seat_of before device
unfolding announces
other_seat_of before (DeviceComes s d) device h = absurd cc
other_seat_of before (DeviceHasType d) device h = absurd cc
other_seat_of before (DeviceDone d) device h = absurd cc
other_seat_of before (DeviceGoes d n) device h = absurd cc
other_seat_of before m device h = seat_of_same before m device refl

-- a device that came has a seat
some_or : (x y : Option ℕ) → is_some x ≡ true → is_some (option_or x y) ≡ true
some_or (Some a) y h = refl
some_or None y h = absurd cc

some_still : (x y : Option ℕ) → is_some y ≡ true → is_some (option_or x y) ≡ true
some_still (Some a) y h = refl
some_still None y h = h

seat_now : (before : List Said) (m : Said) (d : ℕ) → device_comes d before m ≡ true → is_some (seat_of (m ∷ before) d) ≡ true
unfolding device_comes
seat_now before m d h = ap (λ (x : Option ℕ). is_some x) (seat_of_more before m d) ∙ some_or (announces d before m) (seat_of before d) h

seat_still : (before : List Said) (m : Said) (d : ℕ) → is_some (seat_of before d) ≡ true → is_some (seat_of (m ∷ before) d) ≡ true
seat_still before m d h = ap (λ (x : Option ℕ). is_some x) (seat_of_more before m d) ∙ some_still (announces d before m) (seat_of before d) h

pending_was : (e p : Bool) → (not e && p) ≡ true → p ≡ true
pending_was true p h = absurd cc
pending_was false p h = h

pub pending_has_seat : (before : List Said) (d : ℕ) → device_pending before d ≡ true → is_some (seat_of before d) ≡ true
unfolding device_pending lasts
pending_has_seat [] d h = absurd cc
pending_has_seat (m ∷ before) d h = by (pending_has_seat before d) (device_comes d before m) refl
  where
    by : (device_pending before d ≡ true → is_some (seat_of before d) ≡ true) → (c : Bool) → device_comes d before m ≡ c → is_some (seat_of (m ∷ before) d) ≡ true
    by next true e = seat_now before m d e
    by next false e = seat_still before m d (next (pending_was (device_done d m || device_goes d m) (device_pending before d)
        (sym (ap (λ (x : Bool). x || (not (device_done d m || device_goes d m) && device_pending before d)) e) ∙ sym (device_pending_more before m d) ∙ h)))

pub added_has_seat : (before : List Said) (d : ℕ) → device_added before d ≡ true → is_some (seat_of before d) ≡ true
unfolding device_added lasts
added_has_seat [] d h = absurd cc
added_has_seat (m ∷ before) d h = seat_still before m d (by (added_has_seat before d) (device_done d m) (device_pending before d) (device_typed before d) refl (sym (device_added_after before m d) ∙ h))
  where
    by : (device_added before d ≡ true → is_some (seat_of before d) ≡ true) → (e p t : Bool) → device_pending before d ≡ p → ((e && (p && t)) || (not (device_goes d m) && device_added before d)) ≡ true → is_some (seat_of before d) ≡ true
    by next e true t q h = pending_has_seat before d q
    by next true false t q h = next (pending_was (device_goes d m) (device_added before d) h)
    by next false false t q h = next (pending_was (device_goes d m) (device_added before d) h)

-- ---- interfaces

-- an interface is that of this device, by the test that its fields pass
left_if : (before : List Said) (m : Said) (id : ℕ) (o : Offer) (b : Bool) → takes id o before m ≡ b → left before m id (Some o) ≡ cond b None (Some o)
left_if before m id o b h = rw h refl

-- ---- an interface is given to a device

pub gets_at : (before : List Said) (d i : ℕ) (name : List ℕ) (version id : ℕ) (b p : Bool) → eqb i id ≡ b → device_pending before d ≡ p → offers id before (DeviceGets d i name version) ≡ cond (b && p) (Some (offer d name version)) None
unfolding offers
gets_at before d i name version id true true e h = rw (e, h, offers) refl
gets_at before d i name version id true false e h = rw (e, h, offers) refl
gets_at before d i name version id false p e h = rw (e, offers) refl

pub named_at : (before : List Said) (d i : ℕ) (name : List ℕ) (version id : ℕ) (o : Offer) (b p : Bool) → (eqb d o.device && bytes_eq name o.name) ≡ b → device_pending before d ≡ p → takes id o before (DeviceGets d i name version) ≡ (b && p)
unfolding takes
named_at before d i name version id o true p e h = rw (e, takes) h
named_at before d i name version id o false p e h = rw (e, takes) refl

named_left : (before : List Said) (d i : ℕ) (name : List ℕ) (version id : ℕ) (l : Option Offer) → device_pending before d ≡ true → left before (DeviceGets d i name version) id l ≡ unless_named d name l
named_left before d i name version id None h = refl
named_left before d i name version id (Some o) h = by (eqb d o.device && bytes_eq name o.name) refl
  where
    by : (b : Bool) → (eqb d o.device && bytes_eq name o.name) ≡ b → left before (DeviceGets d i name version) id (Some o) ≡ unless_named d name (Some o)
    by true e = rw (named_at before d i name version id o true true e h, e) refl
    by false e = rw (named_at before d i name version id o false true e h, e) refl

gets_by : (before : List Said) (d i : ℕ) (name : List ℕ) (version id : ℕ) (b : Bool) → eqb i id ≡ b → device_pending before d ≡ true →
    interface (DeviceGets d i name version ∷ before) id ≡ cond b (Some (offer d name version)) (unless_named d name (interface before id))
gets_by before d i name version id true e h = interface_at before (DeviceGets d i name version) id (Some (offer d name version)) (gets_at before d i name version id true true e h)
gets_by before d i name version id false e h = interface_at before (DeviceGets d i name version) id None (gets_at before d i name version id false true e h) ∙ named_left before d i name version id (interface before id) h

pub interface_gets : (before : List Said) (d i : ℕ) (name : List ℕ) (version id : ℕ) → device_pending before d ≡ true →
    interface (DeviceGets d i name version ∷ before) id ≡ cond (eqb i id) (Some (offer d name version)) (unless_named d name (interface before id))
interface_gets before d i name version id h = gets_by before d i name version id (eqb i id) refl h

no_if : {A : Type 0} (b : Bool) (x : Option A) → cond (b && false) x None ≡ None
no_if true x = refl
no_if false x = refl

none_taken : (before : List Said) (m : Said) (id : ℕ) (l : Option Offer) → ((o : Offer) → takes id o before m ≡ false) → left before m id l ≡ l
none_taken before m id None h = refl
none_taken before m id (Some o) h = rw (h o) refl

and_no : (b : Bool) → (b && false) ≡ false
and_no true = refl
and_no false = refl

-- an event that offers nothing and takes nothing
interface_same : (before : List Said) (m : Said) (id : ℕ) → offers id before m ≡ None → ((o : Offer) → takes id o before m ≡ false) → interface (m ∷ before) id ≡ interface before id
interface_same before m id e h = interface_at before m id None e ∙ none_taken before m id (interface before id) h

pub interface_refused : (before : List Said) (d i : ℕ) (name : List ℕ) (version id : ℕ) → device_pending before d ≡ false → interface (DeviceGets d i name version ∷ before) id ≡ interface before id
interface_refused before d i name version id h =
    interface_same before (DeviceGets d i name version) id
    (gets_at before d i name version id (eqb i id) false refl h ∙ no_if (eqb i id) _)
    (λ o. named_at before d i name version id o (eqb d o.device && bytes_eq name o.name) false refl h ∙ and_no (eqb d o.device && bytes_eq name o.name))

-- ---- a device goes

pub interface_device_goes : (before : List Said) (d serial id : ℕ) → interface (DeviceGoes d serial ∷ before) id ≡ unless_of d (interface before id)
unfolding offers takes
interface_device_goes before d serial id = interface_at before (DeviceGoes d serial) id None refl ∙ by (interface before id)
  where
    by : (l : Option Offer) → left before (DeviceGoes d serial) id l ≡ unless_of d l
    by None = refl
    by (Some o) = refl

-- ---- a device is done

pub done_takes_at : (before : List Said) (d id : ℕ) (o : Offer) (b p : Bool) → eqb d o.device ≡ b → device_pending before d ≡ p → takes id o before (DeviceDone d) ≡ (b && (p && not (device_typed before d)))
unfolding takes
done_takes_at before d id o true p e h = rw (e, takes) (completes_at false before d (DeviceDone d) true p (eq-eqb d d refl) h)
done_takes_at before d id o false p e h = rw (e, takes) refl

dropped_left : (before : List Said) (d id : ℕ) (l : Option Offer) → device_pending before d ≡ true → device_typed before d ≡ false → left before (DeviceDone d) id l ≡ unless_of d l
dropped_left before d id None h t = refl
dropped_left before d id (Some o) h t = by (eqb d o.device) refl
  where
    by : (b : Bool) → eqb d o.device ≡ b → left before (DeviceDone d) id (Some o) ≡ unless_of d (Some o)
    by true e = rw (done_takes_at before d id o true true e h, t, e) refl
    by false e = rw (done_takes_at before d id o false true e h, e) refl

pub interface_dropped : (before : List Said) (d id : ℕ) → device_pending before d ≡ true → device_typed before d ≡ false → interface (DeviceDone d ∷ before) id ≡ unless_of d (interface before id)
unfolding offers
interface_dropped before d id h t = interface_at before (DeviceDone d) id None refl ∙ dropped_left before d id (interface before id) h t

pub interface_done : (before : List Said) (d id : ℕ) → device_typed before d ≡ true → interface (DeviceDone d ∷ before) id ≡ interface before id
unfolding offers
interface_done before d id t = interface_same before (DeviceDone d) id refl (λ o. done_takes_at before d id o (eqb d o.device) (device_pending before d) refl refl ∙ by (eqb d o.device) (device_pending before d) (device_typed before d) t)
  where
    by : (b p x : Bool) → x ≡ true → (b && (p && not x)) ≡ false
    by true true x h = rw h refl
    by true false x h = refl
    by false p x h = refl

pub interface_not_pending : (before : List Said) (d id : ℕ) → device_pending before d ≡ false → interface (DeviceDone d ∷ before) id ≡ interface before id
unfolding offers
interface_not_pending before d id h = interface_same before (DeviceDone d) id refl (λ o. done_takes_at before d id o (eqb d o.device) false refl h ∙ and_no (eqb d o.device))

-- ---- an interface goes

pub goes_at : (before : List Said) (k : KnownInterface) (i serial id : ℕ) (o : Offer) (b : Bool) → eqb i id ≡ b → takes id o before (Goes k i serial) ≡ (b && device_added before o.device)
unfolding takes
goes_at before k i serial id o true e = rw (e, takes) refl
goes_at before k i serial id o false e = rw (e, takes) refl

goes_left : (before : List Said) (k : KnownInterface) (i serial id : ℕ) (l : Option Offer) → left before (Goes k i serial) id l ≡ cond (eqb i id && is_some (if_added before l)) None l
goes_left before k i serial id None = by (eqb i id && false)
  where
    by : (b : Bool) → ◌≡◌ {A = Option Offer} None (cond b None None)
    by true = refl
    by false = refl
goes_left before k i serial id (Some o) = by (eqb i id) (device_added before o.device) refl refl
  where
    by : (b a : Bool) → eqb i id ≡ b → device_added before o.device ≡ a → left before (Goes k i serial) id (Some o) ≡ cond (eqb i id && is_some (if_added before (Some o))) None (Some o)
    by true true e h = rw (goes_at before k i serial id o true e, h, e) refl
    by true false e h = rw (goes_at before k i serial id o true e, h, e) refl
    by false a e h = rw (goes_at before k i serial id o false e, e) refl

pub interface_goes : (before : List Said) (k : KnownInterface) (i serial id : ℕ) → interface (Goes k i serial ∷ before) id ≡ cond (eqb i id && is_some (holder before id)) None (interface before id)
unfolding offers holder
interface_goes before k i serial id = interface_at before (Goes k i serial) id None refl ∙ goes_left before k i serial id (interface before id)

pub other_interface : (before : List Said) (m : Said) (id : ℕ) → moves_interface m ≡ false → interface (m ∷ before) id ≡ interface before id
unfolding offers takes
other_interface before (DeviceGets d i name version) id h = absurd cc
other_interface before (DeviceDone d) id h = absurd cc
other_interface before (DeviceGoes d serial) id h = absurd cc
other_interface before (Goes k i serial) id h = absurd cc
other_interface before m id h = interface_same before m id refl (λ o. refl)
