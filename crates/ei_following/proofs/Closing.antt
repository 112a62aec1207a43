-- One more event that ends a group: a frame, what a device tells, modifiers, the end of a device; and the end of an interface.
use Rattle.std.proofs.Common.{◌≡◌, ◌+◌, suc, ℕ, Bool, true, false, not, cond, ◌&&◌, ◌||◌, eqb, List, [], ◌∷◌, ◌++◌, length, Option, Some, None, refl, sym, ap, ◌∙◌, subst, arith}
use Rattle.std.specs.Prelude.{unwrap_or, map, slice_index, is_some}
use Rattle.std.proofs.lemmas.Bool.{eqb-true}
use Rattle.std.proofs.lemmas.Bool.Decides.{nat_tests}
use Rattle.ei_spec.specs.declared.interface.KnownInterface.{KnownInterface}
use Rattle.ei_spec.specs.Groups as Groups
use Rattle.ei_spec.specs.Groups.{group, frames_made, with_frame, timed, seen, Input as Waiting, Frame as Framing, Other, Free, Timed, Framed, Plain as Given}
use Rattle.ei_input.specs.declared.input_event.InputEvent.{InputEvent}
use Rattle.ei_reported.specs.Said.{Said, Told, Resumed, Paused, StartEmulating, StopEmulating, Frame, DeviceTells, DeviceGoes, Modifies, Goes}
use Rattle.ei_reported.specs.Standing.{Offer, seat_of, device_pending, device_typed, device_added, interface, holder}
use Rattle.ei_reported.specs.Reported.{Device, Report, Plain, device_of, slots, item, tells, telling, serial, refusal, goes_freely, modifying}
use Rattle.ei_reported.specs.Reported.{DeviceRemoved, DevicePaused, DeviceResumed, KeyboardModifiers, DeviceStartEmulating, DeviceStopEmulating}
use Rattle.ei_reported.specs.Changes.{NewIdsDiffer, unless_of, group_told}
use Rattle.ei_reported.proofs.AfterEachKind.{device_goes_pending, device_goes_typed, device_goes_added, seat_of_goes, interface_device_goes, interface_goes}
use Rattle.ei_reported.proofs.ReportedLaws.{tells_frame, tells_other, frames_nothing, frames_frame, frames_other}
use Rattle.ei_reported.proofs.NoneWaits.{none_waits, waits_nothing, waits_told, waits_modifiers, waits_goes}
use Rattle.ei_reported.proofs.HeldByDevices.{holder_added}
use Rattle.ei_reported.proofs.ItemsAndSerials.{item_device_tells, item_device_goes, item_modifiers, item_other, serial_device_tells, serial_device_goes, serial_modifiers, serial_goes}
use Rattle.ei_following.specs.Core.{put, take_out, DeviceCore, Core, added_device, waiting_of, device_in, holder_in, key_of, group_given, emptied, drops, frames, closes}
use Rattle.ei_following.specs.Core.{told_by, device_tells, device_is_gone, modified_at, modifies, used_by, of_told, added_waiting, closing_told, waiting_at}
use Rattle.ei_following.specs.Following.{IsSeatAt, IsDeviceAt, Follows, TookOne}
use Rattle.ei_following.proofs.Maps.{hit, miss, with_one, without_one, nil_right, behind}
use Rattle.ei_following.proofs.Keeping.{Still, still_other, device_still, seats_kept, devices_kept, interfaces_kept, took, nothing_more}
use Rattle.ei_following.proofs.Refusing.{holder_is}
use Rattle.ei_following.proofs.Devices.{device_of_is, without_of_is}

-- ---- what a frame gives

seen_timed : (see : ℕ → Device) (d t : ℕ) (xs : List InputEvent) (more : List (Groups.Given ℕ InputEvent Plain)) → map (seen see) (map (λ x. Timed d x t) xs ++ more) ≡ map (λ x. Timed (see d) x t) xs ++ map (seen see) more
seen_timed see d t [] more = refl
seen_timed see d t (x ∷ xs) more = ap (λ r. Timed (see d) x t ∷ r) (seen_timed see d t xs more)

seen_group : (see : ℕ → Device) (d n t : ℕ) (xs : List InputEvent) → map (seen see) (with_frame xs d n t) ≡ group_given (see d) xs n t
unfolding with_frame timed
seen_group see d n t [] = refl
seen_group see d n t (x ∷ xs) = seen_timed see d t (x ∷ xs) (Framed d n t ∷ [])

-- what is told of a group is what the converter hands out
pub told_group : (start : ℕ) (before : List Said) (d n t : ℕ) (x : DeviceCore) → IsDeviceAt start before d (Some x) → group_told start before d n t ≡ group_given (key_of d x) x.waiting n t
told_group start before d n t x i = seen_group (device_of before) d n t (group d (slots start before))
    ∙ ap (λ (k : Device). group_given k (group d (slots start before)) n t) (device_of_is before d x i.seat)
    ∙ ap (λ (xs : List InputEvent). group_given (key_of d x) xs n t) (sym i.waiting)

-- ---- the clock

reading_at : (readings later : List ℕ) (t : ℕ) → slice_index ((readings ++ t ∷ []) ++ later) (length readings) ≡ t
reading_at [] later t = refl
reading_at (r ∷ rs) later t = reading_at rs later t

-- the reading that the made frame takes, where something waits
group_at : (k : Device) (n t : ℕ) (xs : List InputEvent) (readings later : List ℕ) → group_given k xs n (slice_index ((readings ++ used_by xs t) ++ later) (length readings)) ≡ group_given k xs n t
group_at k n t [] readings later = refl
group_at k n t (x ∷ xs) readings later = ap (group_given k (x ∷ xs) n) (reading_at readings later t)

more_readings : (readings : List ℕ) (t : ℕ) → length (readings ++ t ∷ []) ≡ length readings + 1
more_readings [] t = refl
more_readings (r ∷ rs) t = omega (arith, more_readings rs t)

plus_none : (n : ℕ) → n + 0 ≡ n
plus_none n = omega arith

some_made : (n : ℕ) → ◌≡◌ {A = ℕ} (cond (eqb (suc n) 0) 0 1) 1
some_made n = grind (arith, nat_tests)

readings_used : (readings : List ℕ) (t : ℕ) (xs : List InputEvent) → length (readings ++ used_by xs t) ≡ length readings + cond (eqb (length xs) 0) 0 1
readings_used readings t [] = ap length (nil_right readings) ∙ sym (plus_none (length readings))
readings_used readings t (x ∷ xs) = more_readings readings t ∙ ap (λ (n : ℕ). length readings + n) (sym (some_made (length xs)))

-- one event more that closes the group of a device
took_closing : (start : ℕ) (before : List Said) (readings : List ℕ) (c new : Core) (m : Said) (d n time : ℕ) (x : DeviceCore) (y : Device → Plain) → Follows start before readings c → NewIdsDiffer (m ∷ before) →
    IsDeviceAt start before d (Some x) → item before m ≡ Some (Other d (y (device_of before d))) → serial start (m ∷ before) ≡ n →
    ((id : ℕ) → IsSeatAt (m ∷ before) id (new.seats id)) → ((id : ℕ) → IsDeviceAt start (m ∷ before) id (new.devices id)) → ((id : ℕ) → new.interfaces id ≡ interface (m ∷ before) id) →
    new.serial ≡ n → new.queue ≡ c.queue ++ (group_given (key_of d x) x.waiting n time ++ Given (y (key_of d x)) ∷ []) → TookOne start before m readings (used_by x.waiting time) c new
took_closing start before readings c new m d n time x y f u i e s seats devices interfaces sn q = record {
  follows = record {
    differ = u;
    seats = seats;
    devices = devices;
    interfaces = interfaces;
    serial = sn ∙ sym s;
    frames = readings_used readings time x.waiting ∙ ap (λ (xs : List InputEvent). length readings + cond (eqb (length xs) 0) 0 1) i.waiting
        ∙ ap (λ (k : ℕ). k + cond (eqb (length (group d (slots start before))) 0) 0 1) f.frames ∙ sym (frames_other start before m d (y (device_of before d)) e);
  };
  queue = λ later. q ∙ ap (λ (r : List Report). c.queue ++ r) (sym (tells_other start ((readings ++ used_by x.waiting time) ++ later) before m d (y (device_of before d)) e
      ∙ ap (λ (r : List Report). r ++ Given (y (device_of before d)) ∷ []) (told_group start before d (serial start (m ∷ before)) (slice_index ((readings ++ used_by x.waiting time) ++ later) (frames_made (slots start before))) x i
      ∙ ap (λ (k : ℕ). group_given (key_of d x) x.waiting k (slice_index ((readings ++ used_by x.waiting time) ++ later) (frames_made (slots start before)))) s
      ∙ ap (λ (k : ℕ). group_given (key_of d x) x.waiting n (slice_index ((readings ++ used_by x.waiting time) ++ later) k)) (sym f.frames)
      ∙ group_at (key_of d x) n time x.waiting readings later)
      ∙ ap (λ (k : Device). group_given (key_of d x) x.waiting n time ++ Given (y k) ∷ []) (device_of_is before d x i.seat)));
}

-- ---- a device of which nothing waits any more

emptied_devices : (start : ℕ) (before : List Said) (readings : List ℕ) (c : Core) (m : Said) (d : ℕ) (x : DeviceCore) → Follows start before readings c → IsDeviceAt start before d (Some x) →
    ((q : ℕ) → Still before m q) → ((q : ℕ) → group q (slots start (m ∷ before)) ≡ cond (eqb d q) [] (group q (slots start before))) → (q : ℕ) → IsDeviceAt start (m ∷ before) q (put c.devices d (emptied x) q)
emptied_devices start before readings c m d x f i s w = with_one (IsDeviceAt start (m ∷ before)) c.devices d (emptied x)
    (record {
      pending = (s d).pending ∙ i.pending;
      added = (s d).added ∙ i.added;
      typed = λ a. (s d).typed ∙ i.typed a;
      seat = (s d).seat ∙ i.seat;
      waiting = sym (w d ∙ hit d [] (group d (slots start before)));
    })
    (λ q no. device_still start before m q (c.devices q) (f.devices q) (s q) (w q ∙ miss d q [] (group q (slots start before)) no))

-- ---- what a device tells

told_frame : (start : ℕ) (before : List Said) (readings : List ℕ) (c : Core) (d n t : ℕ) (x : DeviceCore) → Follows start before readings c → NewIdsDiffer (DeviceTells d n (Frame t) ∷ before) →
    IsDeviceAt start before d (Some x) → device_added before d ≡ true → TookOne start before (DeviceTells d n (Frame t)) readings [] c (frames c d x n t)
told_frame start before readings c d n t x f u i a =
    let e : item before (DeviceTells d n (Frame t)) ≡ Some (Framing d n t) = item_device_tells before d n (Frame t) ∙ ap (λ (b : Bool). cond b (Some (Framing d n t)) None) a in
    took start before readings c (frames c d x n t) (DeviceTells d n (Frame t)) f u
    (seats_kept start before readings c (DeviceTells d n (Frame t)) f refl)
    (emptied_devices start before readings c (DeviceTells d n (Frame t)) d x f i (λ q. still_other before (DeviceTells d n (Frame t)) q refl) (λ q. waits_told start before d q n (Frame t) a))
    (interfaces_kept start before readings c (DeviceTells d n (Frame t)) f refl)
    (sym (serial_device_tells start before d n (Frame t)))
    (frames_frame start before (DeviceTells d n (Frame t)) d n t e)
    (λ times. ap (λ (r : List Report). c.queue ++ r) (sym (tells_frame start times before (DeviceTells d n (Frame t)) d n t e ∙ told_group start before d n t x i)))

told_other : (start : ℕ) (before : List Said) (readings : List ℕ) (c : Core) (d n : ℕ) (told : Told) (time : ℕ) (x : DeviceCore) (y : Device → Plain) → Follows start before readings c → NewIdsDiffer (DeviceTells d n told ∷ before) →
    IsDeviceAt start before d (Some x) → device_added before d ≡ true → telling (device_of before d) n told ≡ Other d (y (device_of before d)) →
    TookOne start before (DeviceTells d n told) readings (used_by x.waiting time) c (closes c d x n time (y (key_of d x)))
told_other start before readings c d n told time x y f u i a g =
    let e : item before (DeviceTells d n told) ≡ Some (Other d (y (device_of before d))) = item_device_tells before d n told ∙ ap (λ (b : Bool). cond b (Some (telling (device_of before d) n told)) None) a ∙ ap Some g in
    took_closing start before readings c (closes c d x n time (y (key_of d x))) (DeviceTells d n told) d n time x y f u i e (serial_device_tells start before d n told)
    (seats_kept start before readings c (DeviceTells d n told) f refl)
    (emptied_devices start before readings c (DeviceTells d n told) d x f i (λ q. still_other before (DeviceTells d n told) q refl) (λ q. waits_told start before d q n told a))
    (interfaces_kept start before readings c (DeviceTells d n told) f refl)
    refl refl

-- one that is refused keeps its serial
told_early : (start : ℕ) (before : List Said) (readings : List ℕ) (c : Core) (d n : ℕ) (told : Told) → Follows start before readings c → NewIdsDiffer (DeviceTells d n told ∷ before) →
    device_added before d ≡ false → TookOne start before (DeviceTells d n told) readings [] c (record c { serial = n })
told_early start before readings c d n told f u a =
    let e : item before (DeviceTells d n told) ≡ None = item_device_tells before d n told ∙ ap (λ (b : Bool). cond b (Some (telling (device_of before d) n told)) None) a in
    took start before readings c (record c { serial = n }) (DeviceTells d n told) f u
    (seats_kept start before readings c (DeviceTells d n told) f refl)
    (devices_kept start before readings c (DeviceTells d n told) f refl (λ q. waits_nothing start before (DeviceTells d n told) q e))
    (interfaces_kept start before readings c (DeviceTells d n told) f refl)
    (sym (serial_device_tells start before d n told))
    (frames_nothing start before (DeviceTells d n told) e)
    (nothing_more start before (DeviceTells d n told) c.queue e)

told_in_time : (start : ℕ) (before : List Said) (readings : List ℕ) (c : Core) (d n : ℕ) (told : Told) (time : ℕ) (x : DeviceCore) → Follows start before readings c → NewIdsDiffer (DeviceTells d n told ∷ before) →
    IsDeviceAt start before d (Some x) → device_added before d ≡ true → TookOne start before (DeviceTells d n told) readings (used_by (of_told told x.waiting) time) c (told_by c d x n told time)
told_in_time start before readings c d n Resumed time x f u i a = told_other start before readings c d n Resumed time x (λ k. DeviceResumed k n) f u i a refl
told_in_time start before readings c d n Paused time x f u i a = told_other start before readings c d n Paused time x (λ k. DevicePaused k n) f u i a refl
told_in_time start before readings c d n (StartEmulating sequence) time x f u i a = told_other start before readings c d n (StartEmulating sequence) time x (λ k. DeviceStartEmulating k n sequence) f u i a refl
told_in_time start before readings c d n StopEmulating time x f u i a = told_other start before readings c d n StopEmulating time x (λ k. DeviceStopEmulating k n) f u i a refl
told_in_time start before readings c d n (Frame t) time x f u i a = told_frame start before readings c d n t x f u i a

pub device_tells_one : (start : ℕ) (before : List Said) (readings : List ℕ) (c : Core) (d n : ℕ) (told : Told) (time : ℕ) → Follows start before readings c → NewIdsDiffer (DeviceTells d n told ∷ before) →
    TookOne start before (DeviceTells d n told) readings (used_by (closing_told told (device_in c d)) time) c (device_tells c d n told time (device_in c d))
device_tells_one start before readings c d n told time f u = by (device_in c d) refl
  where
    early : (t : Told) → NewIdsDiffer (DeviceTells d n t ∷ before) → device_added before d ≡ false → TookOne start before (DeviceTells d n t) readings (used_by (of_told t []) time) c (record c { serial = n })
    early Resumed v a = told_early start before readings c d n Resumed f v a
    early Paused v a = told_early start before readings c d n Paused f v a
    early (StartEmulating sequence) v a = told_early start before readings c d n (StartEmulating sequence) f v a
    early StopEmulating v a = told_early start before readings c d n StopEmulating f v a
    early (Frame t) v a = told_early start before readings c d n (Frame t) f v a

    by : (o : Option DeviceCore) → device_in c d ≡ o → TookOne start before (DeviceTells d n told) readings (used_by (closing_told told o) time) c (device_tells c d n told time o)
    by None e = early told u ((f.devices d).added ∙ ap added_device e)
    by (Some x) e = at x.added ((f.devices d).added ∙ ap added_device e) (subst (IsDeviceAt start before d) e (f.devices d))
      where
        at : (a : Bool) → device_added before d ≡ a → IsDeviceAt start before d (Some x) → TookOne start before (DeviceTells d n told) readings (used_by (of_told told (cond a x.waiting [])) time) c (cond a (told_by c d x n told time) (record c { serial = n }))
        at true h i = told_in_time start before readings c d n told time x f u i h
        at false h i = early told u h

-- ---- modifiers

modified_one : (start : ℕ) (before : List Said) (readings : List ℕ) (c : Core) (id n a b l g d time : ℕ) (o : Option DeviceCore) → Follows start before readings c → NewIdsDiffer (Modifies id n a b l g ∷ before) →
    holder before id ≡ Some d → device_in c d ≡ o → TookOne start before (Modifies id n a b l g) readings (used_by (waiting_of o) time) c (modified_at c d n a b l g time o)
modified_one start before readings c id n a b l g d time None f u h e =
    let clash : true ≡ false = sym (holder_added before id d h) ∙ (f.devices d).added ∙ ap added_device e in absurd cc
modified_one start before readings c id n a b l g d time (Some x) f u h e =
    let i : IsDeviceAt start before d (Some x) = subst (IsDeviceAt start before d) e (f.devices d) in
    let it : item before (Modifies id n a b l g) ≡ Some (Other d (KeyboardModifiers (device_of before d) n a l b g)) = item_modifiers before id n a b l g ∙ ap (modifying before n a b l g) h in
    took_closing start before readings c (closes c d x n time (KeyboardModifiers (key_of d x) n a l b g)) (Modifies id n a b l g) d n time x (λ k. KeyboardModifiers k n a l b g) f u i it (serial_modifiers start before id n a b l g)
    (seats_kept start before readings c (Modifies id n a b l g) f refl)
    (emptied_devices start before readings c (Modifies id n a b l g) d x f i (λ q. still_other before (Modifies id n a b l g) q refl) (λ q. waits_modifiers start before id d q n a b l g h))
    (interfaces_kept start before readings c (Modifies id n a b l g) f refl)
    refl refl

pub modifies_one : (start : ℕ) (before : List Said) (readings : List ℕ) (c : Core) (id n a b l g time : ℕ) → Follows start before readings c → NewIdsDiffer (Modifies id n a b l g ∷ before) →
    TookOne start before (Modifies id n a b l g) readings (used_by (waiting_at c (holder_in c id)) time) c (modifies c n a b l g time (holder_in c id))
modifies_one start before readings c id n a b l g time f u = by (holder_in c id) (sym (holder_is start before readings c id f))
  where
    by : (o : Option ℕ) → holder before id ≡ o → TookOne start before (Modifies id n a b l g) readings (used_by (waiting_at c o) time) c (modifies c n a b l g time o)
    by None h =
        let e : item before (Modifies id n a b l g) ≡ None = item_modifiers before id n a b l g ∙ ap (modifying before n a b l g) h in
        took start before readings c (record c { serial = n }) (Modifies id n a b l g) f u
        (seats_kept start before readings c (Modifies id n a b l g) f refl)
        (devices_kept start before readings c (Modifies id n a b l g) f refl (λ q. waits_nothing start before (Modifies id n a b l g) q e))
        (interfaces_kept start before readings c (Modifies id n a b l g) f refl)
        (sym (serial_modifiers start before id n a b l g))
        (frames_nothing start before (Modifies id n a b l g) e)
        (nothing_more start before (Modifies id n a b l g) c.queue e)
    by (Some d) h = modified_one start before readings c id n a b l g d time (device_in c d) f u h refl

-- ---- a device goes

gone_devices : (start : ℕ) (before : List Said) (readings : List ℕ) (c : Core) (d n : ℕ) → Follows start before readings c → (q : ℕ) → IsDeviceAt start (DeviceGoes d n ∷ before) q (take_out c.devices d q)
gone_devices start before readings c d n f = without_one (IsDeviceAt start (DeviceGoes d n ∷ before)) c.devices d
    (record {
      pending = device_goes_pending before d n d ∙ hit d false (device_pending before d);
      added = device_goes_added before d n d ∙ hit d false (device_added before d);
      typed = tt;
      seat = tt;
      waiting = sym (waits_goes start before d d n ∙ hit d [] (group d (slots start before)));
    })
    (λ q no. device_still start before (DeviceGoes d n) q (c.devices q) (f.devices q) (record {
      pending = device_goes_pending before d n q ∙ miss d q false (device_pending before q) no;
      added = device_goes_added before d n q ∙ miss d q false (device_added before q) no;
      typed = device_goes_typed before d n q;
      seat = seat_of_goes before d n q;
    }) (waits_goes start before d q n ∙ miss d q [] (group q (slots start before)) no))

gone_early : (start : ℕ) (before : List Said) (readings : List ℕ) (c : Core) (d n : ℕ) → Follows start before readings c → NewIdsDiffer (DeviceGoes d n ∷ before) →
    device_added before d ≡ false → TookOne start before (DeviceGoes d n) readings [] c (record (drops c d) { serial = n })
gone_early start before readings c d n f u a =
    let e : item before (DeviceGoes d n) ≡ None = item_device_goes before d n ∙ ap (λ (b : Bool). cond b (Some (Other d (DeviceRemoved (device_of before d)))) None) a in
    took start before readings c (record (drops c d) { serial = n }) (DeviceGoes d n) f u
    (seats_kept start before readings c (DeviceGoes d n) f refl)
    (gone_devices start before readings c d n f)
    (λ q. without_of_is start before readings c d q f ∙ sym (interface_device_goes before d n q))
    (sym (serial_device_goes start before d n))
    (frames_nothing start before (DeviceGoes d n) e)
    (nothing_more start before (DeviceGoes d n) c.queue e)

pub device_goes_one : (start : ℕ) (before : List Said) (readings : List ℕ) (c : Core) (d n time : ℕ) → Follows start before readings c → NewIdsDiffer (DeviceGoes d n ∷ before) →
    TookOne start before (DeviceGoes d n) readings (used_by (added_waiting (device_in c d)) time) c (device_is_gone c d n time (device_in c d))
device_goes_one start before readings c d n time f u = by (device_in c d) refl
  where
    by : (o : Option DeviceCore) → device_in c d ≡ o → TookOne start before (DeviceGoes d n) readings (used_by (added_waiting o) time) c (device_is_gone c d n time o)
    by None e = gone_early start before readings c d n f u ((f.devices d).added ∙ ap added_device e)
    by (Some x) e = at x.added ((f.devices d).added ∙ ap added_device e) (subst (IsDeviceAt start before d) e (f.devices d))
      where
        at : (a : Bool) → device_added before d ≡ a → IsDeviceAt start before d (Some x) → TookOne start before (DeviceGoes d n) readings (used_by (cond a x.waiting []) time) c
            (cond a (record (drops c d) { serial = n; queue = c.queue ++ (group_given (key_of d x) x.waiting n time ++ Given (DeviceRemoved (key_of d x)) ∷ []) }) (record (drops c d) { serial = n }))
        at true h i =
            let it : item before (DeviceGoes d n) ≡ Some (Other d (DeviceRemoved (device_of before d))) = item_device_goes before d n ∙ ap (λ (b : Bool). cond b (Some (Other d (DeviceRemoved (device_of before d)))) None) h in
            took_closing start before readings c (record (drops c d) { serial = n; queue = c.queue ++ (group_given (key_of d x) x.waiting n time ++ Given (DeviceRemoved (key_of d x)) ∷ []) }) (DeviceGoes d n) d n time x DeviceRemoved f u i it (serial_device_goes start before d n)
            (seats_kept start before readings c (DeviceGoes d n) f refl)
            (gone_devices start before readings c d n f)
            (λ q. without_of_is start before readings c d q f ∙ sym (interface_device_goes before d n q))
            refl refl
        at false h i = gone_early start before readings c d n f u h

-- ---- an interface goes

pub goes_one : (start : ℕ) (before : List Said) (readings : List ℕ) (c : Core) (k : KnownInterface) (id n time : ℕ) → Follows start before readings c → NewIdsDiffer (Goes k id n ∷ before) →
    TookOne start before (Goes k id n) readings [] c (cond (is_some (holder_in c id)) (record c { interfaces = take_out c.interfaces id; serial = n }) (cond (goes_freely k) (record c { serial = n }) c))
goes_one start before readings c k id n time f u = by (is_some (holder_in c id)) (ap is_some (sym (holder_is start before readings c id f)))
  where
    e : item before (Goes k id n) ≡ None
    e = item_other before (Goes k id n) refl

    seats : (q : ℕ) → IsSeatAt (Goes k id n ∷ before) q (c.seats q)
    seats = seats_kept start before readings c (Goes k id n) f refl

    devices : (q : ℕ) → IsDeviceAt start (Goes k id n ∷ before) q (c.devices q)
    devices = devices_kept start before readings c (Goes k id n) f refl (λ q. waits_nothing start before (Goes k id n) q e)

    none_gone : (q : ℕ) (b : Bool) → cond (b && false) None (interface before q) ≡ interface before q
    none_gone q true = refl
    none_gone q false = refl

    one_gone : (q : ℕ) (b : Bool) → cond (b && true) None (interface before q) ≡ cond b None (interface before q)
    one_gone q true = refl
    one_gone q false = refl

    kept_serial : (b : Bool) → cond (b || true) n (serial start before) ≡ n
    kept_serial true = refl
    kept_serial false = refl

    by : (h : Bool) → is_some (holder before id) ≡ h → TookOne start before (Goes k id n) readings [] c (cond h (record c { interfaces = take_out c.interfaces id; serial = n }) (cond (goes_freely k) (record c { serial = n }) c))
    by true h = took start before readings c (record c { interfaces = take_out c.interfaces id; serial = n }) (Goes k id n) f u seats devices
        (λ q. ap (cond (eqb id q) None) (f.interfaces q) ∙ sym (interface_goes before k id n q ∙ same_holder q (eqb id q) refl))
        (sym (serial_goes start before k id n ∙ ap (λ (b : Bool). cond (goes_freely k || b) n (serial start before)) h ∙ kept_serial (goes_freely k)))
        (frames_nothing start before (Goes k id n) e)
        (nothing_more start before (Goes k id n) c.queue e)
      where
        same_holder : (q : ℕ) (b : Bool) → eqb id q ≡ b → cond (b && is_some (holder before q)) None (interface before q) ≡ cond b None (interface before q)
        same_holder q true s = ap (λ (x : Bool). cond x None (interface before q)) (sym (ap (λ (i : ℕ). is_some (holder before i)) (eqb-true id q s)) ∙ h)
        same_holder q false s = refl
    by false h = at (goes_freely k) refl
      where
        none_taken : (q : ℕ) (b : Bool) → eqb id q ≡ b → cond (b && is_some (holder before q)) None (interface before q) ≡ interface before q
        none_taken q true s = ap (λ (x : Bool). cond x None (interface before q)) (sym (ap (λ (i : ℕ). is_some (holder before i)) (eqb-true id q s)) ∙ h)
        none_taken q false s = refl

        at : (g : Bool) → goes_freely k ≡ g → TookOne start before (Goes k id n) readings [] c (cond g (record c { serial = n }) c)
        at true g = took start before readings c (record c { serial = n }) (Goes k id n) f u seats devices
            (λ q. f.interfaces q ∙ sym (interface_goes before k id n q ∙ none_taken q (eqb id q) refl))
            (sym (serial_goes start before k id n ∙ ap (λ (b : Bool). cond (b || is_some (holder before id)) n (serial start before)) g))
            (frames_nothing start before (Goes k id n) e)
            (nothing_more start before (Goes k id n) c.queue e)
        at false g = took start before readings c c (Goes k id n) f u seats devices
            (λ q. f.interfaces q ∙ sym (interface_goes before k id n q ∙ none_taken q (eqb id q) refl))
            (f.serial ∙ sym (serial_goes start before k id n ∙ ap (λ (b : Bool). cond (b || is_some (holder before id)) n (serial start before)) g ∙ ap (λ (b : Bool). cond b n (serial start before)) h))
            (frames_nothing start before (Goes k id n) e)
            (nothing_more start before (Goes k id n) c.queue e)
