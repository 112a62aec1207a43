-- One more event that describes a device, and inputs.
use Rattle.std.proofs.Common.{◌≡◌, ◌+◌, ℕ, Bool, true, false, not, cond, ◌&&◌, eqb, List, [], ◌∷◌, ◌++◌, length, Option, Some, None, refl, sym, ap, ◌∙◌, subst, arith}
use Rattle.std.specs.Prelude.{unwrap_or, map}
use Rattle.std.proofs.lemmas.Bool.{eqb-true}
use Rattle.ei_spec.specs.Groups.{group, frames_made, with_frame, seen, Input as Waiting, Other, Free, Plain as Given}
use Rattle.ei_input.specs.declared.input_event.InputEvent.{InputEvent}
use Rattle.ei_reported.specs.Said.{Said, DeviceComes, DeviceHasType, DeviceGets, DeviceDone, Inputs}
use Rattle.ei_reported.specs.Standing.{Offer, offer, seat_added, seat_of, device_pending, device_typed, device_added, interface, holder}
use Rattle.ei_reported.specs.Reported.{Device, Report, device_of, waiting, slots, item, tells, serial, DeviceAdded}
use Rattle.ei_reported.specs.Changes.{NewIdsDiffer, brought, unless_of, unless_named, group_told}
use Rattle.ei_reported.proofs.AfterEachKind.{device_comes_pending, device_comes_typed, device_comes_added, device_refused_pending, device_refused_typed}
use Rattle.ei_reported.proofs.AfterEachKind.{device_types, device_types_pending, device_types_added, device_done_pending, device_done_typed, device_done_added}
use Rattle.ei_reported.proofs.AfterEachKind.{device_done_dropped, seat_of_comes, seat_of_refused, seat_of_typed, seat_of_done}
use Rattle.ei_reported.proofs.AfterEachKind.{interface_gets, interface_refused, interface_dropped, interface_done, interface_not_pending}
use Rattle.ei_reported.proofs.NeverBrought.{new_device_added}
use Rattle.ei_reported.proofs.ReportedLaws.{tells_input, tells_other, frames_nothing, frames_input, frames_other}
use Rattle.ei_reported.proofs.NoneWaits.{none_waits, waits_nothing, waits_input, waits_done}
use Rattle.ei_reported.proofs.HeldByDevices.{holder_added}
use Rattle.ei_reported.proofs.ItemsAndSerials.{item_device_done, item_input, item_other, serial_other}
use Rattle.ei_following.specs.Core.{SeatCore, DeviceCore, Core, pending_device, added_device, added_seat, seat_in, device_in, holder_in, queues, put_device, new_device}
use Rattle.ei_following.specs.Core.{put, key_of, without_of, without_named, drops, device_has_type, device_is_done, waits_on, input_comes}
use Rattle.ei_following.specs.Following.{IsSeatAt, IsDeviceAt, Follows, TookOne}
use Rattle.ei_following.proofs.Maps.{same, hit, miss, with_one, without_one, nil_right}
use Rattle.ei_following.proofs.Keeping.{Still, still_other, device_still, seats_kept, devices_kept, interfaces_kept, took, nothing_more, quiet}
use Rattle.ei_following.proofs.Refusing.{holder_is}

-- ---- a device comes

pub device_comes_one : (start : ℕ) (before : List Said) (readings : List ℕ) (c : Core) (seat d : ℕ) → Follows start before readings c → NewIdsDiffer (DeviceComes seat d ∷ before) →
    TookOne start before (DeviceComes seat d) readings [] c (cond (added_seat (seat_in c seat)) (put_device c d (new_device seat)) c)
device_comes_one start before readings c seat d f u = by (added_seat (seat_in c seat)) (f.seats seat).added
  where
    e : item before (DeviceComes seat d) ≡ None
    e = item_other before (DeviceComes seat d) refl

    new : brought before d ≡ false
    new = u.0 d (same d)

    by : (a : Bool) → seat_added before seat ≡ a → TookOne start before (DeviceComes seat d) readings [] c (cond a (put_device c d (new_device seat)) c)
    by true h = took start before readings c (put_device c d (new_device seat)) (DeviceComes seat d) f u
        (seats_kept start before readings c (DeviceComes seat d) f refl)
        (with_one (IsDeviceAt start (DeviceComes seat d ∷ before)) c.devices d (new_device seat)
        (record {
          pending = device_comes_pending before seat d d h ∙ hit d true (device_pending before d);
          added = device_comes_added before seat d d ∙ new_device_added before d new;
          typed = λ _. device_comes_typed before seat d d h ∙ hit d false (device_typed before d);
          seat = seat_of_comes before seat d d h ∙ hit d (Some seat) (seat_of before d);
          waiting = sym (waits_nothing start before (DeviceComes seat d) d e ∙ none_waits start before d (new_device_added before d new));
        })
        (λ q no. device_still start before (DeviceComes seat d) q (c.devices q) (f.devices q) (record {
          pending = device_comes_pending before seat d q h ∙ miss d q true (device_pending before q) no;
          added = device_comes_added before seat d q;
          typed = device_comes_typed before seat d q h ∙ miss d q false (device_typed before q) no;
          seat = seat_of_comes before seat d q h ∙ miss d q (Some seat) (seat_of before q) no;
        }) (waits_nothing start before (DeviceComes seat d) q e)))
        (interfaces_kept start before readings c (DeviceComes seat d) f refl)
        (f.serial ∙ sym (serial_other start before (DeviceComes seat d) refl))
        (frames_nothing start before (DeviceComes seat d) e)
        (nothing_more start before (DeviceComes seat d) c.queue e)
    by false h = took start before readings c c (DeviceComes seat d) f u
        (seats_kept start before readings c (DeviceComes seat d) f refl)
        (λ q. device_still start before (DeviceComes seat d) q (c.devices q) (f.devices q) (record {
          pending = device_refused_pending before seat d q h;
          added = device_comes_added before seat d q;
          typed = device_refused_typed before seat d q h;
          seat = seat_of_refused before seat d q h;
        }) (waits_nothing start before (DeviceComes seat d) q e))
        (interfaces_kept start before readings c (DeviceComes seat d) f refl)
        (f.serial ∙ sym (serial_other start before (DeviceComes seat d) refl))
        (frames_nothing start before (DeviceComes seat d) e)
        (nothing_more start before (DeviceComes seat d) c.queue e)

-- ---- its type comes

-- a type that is refused is that of no pending device
late_type : (before : List Said) (d q : ℕ) → device_pending before d ≡ false → device_pending before q ≡ true → device_typed (DeviceHasType d ∷ before) q ≡ device_typed before q
late_type before d q h p = by (eqb d q) refl
  where
    by : (b : Bool) → eqb d q ≡ b → device_typed (DeviceHasType d ∷ before) q ≡ device_typed before q
    by true e = let clash : false ≡ true = sym h ∙ ap (device_pending before) (eqb-true d q e) ∙ p in absurd cc
    by false e = device_types before d q ∙ miss d q true (device_typed before q) e

type_still : (start : ℕ) (before : List Said) (d q : ℕ) (x : Option DeviceCore) → device_pending before d ≡ false → IsDeviceAt start before q x → IsDeviceAt start (DeviceHasType d ∷ before) q x
type_still start before d q None h i = record {
  pending = device_types_pending before d q ∙ i.pending;
  added = device_types_added before d q ∙ i.added;
  typed = tt;
  seat = tt;
  waiting = i.waiting ∙ sym (waits_nothing start before (DeviceHasType d) q (item_other before (DeviceHasType d) refl));
}
type_still start before d q (Some x) h i = record {
  pending = device_types_pending before d q ∙ i.pending;
  added = device_types_added before d q ∙ i.added;
  typed = λ a. late_type before d q h (i.pending ∙ ap not a) ∙ i.typed a;
  seat = seat_of_typed before d q ∙ i.seat;
  waiting = i.waiting ∙ sym (waits_nothing start before (DeviceHasType d) q (item_other before (DeviceHasType d) refl));
}

type_late : (start : ℕ) (before : List Said) (readings : List ℕ) (c : Core) (d : ℕ) → Follows start before readings c → NewIdsDiffer (DeviceHasType d ∷ before) →
    device_pending before d ≡ false → TookOne start before (DeviceHasType d) readings [] c c
type_late start before readings c d f u h =
    let e : item before (DeviceHasType d) ≡ None = item_other before (DeviceHasType d) refl in
    took start before readings c c (DeviceHasType d) f u
    (seats_kept start before readings c (DeviceHasType d) f refl)
    (λ q. type_still start before d q (c.devices q) h (f.devices q))
    (interfaces_kept start before readings c (DeviceHasType d) f refl)
    (f.serial ∙ sym (serial_other start before (DeviceHasType d) refl))
    (frames_nothing start before (DeviceHasType d) e)
    (nothing_more start before (DeviceHasType d) c.queue e)

type_in_time : (start : ℕ) (before : List Said) (readings : List ℕ) (c : Core) (d : ℕ) (x : DeviceCore) → Follows start before readings c → NewIdsDiffer (DeviceHasType d ∷ before) →
    IsDeviceAt start before d (Some x) → TookOne start before (DeviceHasType d) readings [] c (put_device c d (record x { typed = true }))
type_in_time start before readings c d x f u i =
    let e : item before (DeviceHasType d) ≡ None = item_other before (DeviceHasType d) refl in
    took start before readings c (put_device c d (record x { typed = true })) (DeviceHasType d) f u
    (seats_kept start before readings c (DeviceHasType d) f refl)
    (with_one (IsDeviceAt start (DeviceHasType d ∷ before)) c.devices d (record x { typed = true })
    (record {
      pending = device_types_pending before d d ∙ i.pending;
      added = device_types_added before d d ∙ i.added;
      typed = λ _. device_types before d d ∙ hit d true (device_typed before d);
      seat = seat_of_typed before d d ∙ i.seat;
      waiting = i.waiting ∙ sym (waits_nothing start before (DeviceHasType d) d e);
    })
    (λ q no. device_still start before (DeviceHasType d) q (c.devices q) (f.devices q) (record {
      pending = device_types_pending before d q;
      added = device_types_added before d q;
      typed = device_types before d q ∙ miss d q true (device_typed before q) no;
      seat = seat_of_typed before d q;
    }) (waits_nothing start before (DeviceHasType d) q e)))
    (interfaces_kept start before readings c (DeviceHasType d) f refl)
    (f.serial ∙ sym (serial_other start before (DeviceHasType d) refl))
    (frames_nothing start before (DeviceHasType d) e)
    (nothing_more start before (DeviceHasType d) c.queue e)

pub device_has_type_one : (start : ℕ) (before : List Said) (readings : List ℕ) (c : Core) (d : ℕ) → Follows start before readings c → NewIdsDiffer (DeviceHasType d ∷ before) →
    TookOne start before (DeviceHasType d) readings [] c (device_has_type c d (device_in c d))
device_has_type_one start before readings c d f u = by (device_in c d) refl
  where
    by : (o : Option DeviceCore) → device_in c d ≡ o → TookOne start before (DeviceHasType d) readings [] c (device_has_type c d o)
    by None e = type_late start before readings c d f u ((f.devices d).pending ∙ ap pending_device e)
    by (Some x) e = at x.added ((f.devices d).pending ∙ ap pending_device e)
      where
        at : (a : Bool) → device_pending before d ≡ not a → TookOne start before (DeviceHasType d) readings [] c (cond a c (put_device c d (record x { typed = true })))
        at true h = type_late start before readings c d f u h
        at false h = type_in_time start before readings c d x f u (subst (IsDeviceAt start before d) e (f.devices d))

-- ---- it gets an interface

pub without_of_is : (start : ℕ) (before : List Said) (readings : List ℕ) (c : Core) (d q : ℕ) → Follows start before readings c → without_of d c.interfaces q ≡ unless_of d (interface before q)
without_of_is start before readings c d q f = ap (unless_of d) (f.interfaces q)

pub device_gets_one : (start : ℕ) (before : List Said) (readings : List ℕ) (c : Core) (d i : ℕ) (name : List ℕ) (version : ℕ) → Follows start before readings c → NewIdsDiffer (DeviceGets d i name version ∷ before) →
    TookOne start before (DeviceGets d i name version) readings [] c
    (cond (pending_device (device_in c d)) (record c { interfaces = put (without_named d name c.interfaces) i (offer d name version) }) c)
device_gets_one start before readings c d i name version f u = by (pending_device (device_in c d)) (f.devices d).pending
  where
    e : item before (DeviceGets d i name version) ≡ None
    e = item_other before (DeviceGets d i name version) refl

    by : (p : Bool) → device_pending before d ≡ p → TookOne start before (DeviceGets d i name version) readings [] c
        (cond p (record c { interfaces = put (without_named d name c.interfaces) i (offer d name version) }) c)
    by true h = took start before readings c (record c { interfaces = put (without_named d name c.interfaces) i (offer d name version) }) (DeviceGets d i name version) f u
        (seats_kept start before readings c (DeviceGets d i name version) f refl)
        (devices_kept start before readings c (DeviceGets d i name version) f refl (λ q. waits_nothing start before (DeviceGets d i name version) q e))
        (λ q. ap (λ (x : Option Offer). cond (eqb i q) (Some (offer d name version)) (unless_named d name x)) (f.interfaces q) ∙ sym (interface_gets before d i name version q h))
        (f.serial ∙ sym (serial_other start before (DeviceGets d i name version) refl))
        (frames_nothing start before (DeviceGets d i name version) e)
        (nothing_more start before (DeviceGets d i name version) c.queue e)
    by false h = took start before readings c c (DeviceGets d i name version) f u
        (seats_kept start before readings c (DeviceGets d i name version) f refl)
        (devices_kept start before readings c (DeviceGets d i name version) f refl (λ q. waits_nothing start before (DeviceGets d i name version) q e))
        (λ q. f.interfaces q ∙ sym (interface_refused before d i name version q h))
        (f.serial ∙ sym (serial_other start before (DeviceGets d i name version) refl))
        (frames_nothing start before (DeviceGets d i name version) e)
        (nothing_more start before (DeviceGets d i name version) c.queue e)

-- ---- it is described whole

done_late : (start : ℕ) (before : List Said) (readings : List ℕ) (c : Core) (d : ℕ) → Follows start before readings c → NewIdsDiffer (DeviceDone d ∷ before) →
    device_pending before d ≡ false → TookOne start before (DeviceDone d) readings [] c c
done_late start before readings c d f u h =
    let none : (device_pending before d && device_typed before d) ≡ false = ap (λ (b : Bool). b && device_typed before d) h in
    let e : item before (DeviceDone d) ≡ None = item_device_done before d ∙ ap (λ (b : Bool). cond b (Some (Other d (DeviceAdded (device_of before d)))) None) none in
    took start before readings c c (DeviceDone d) f u
    (seats_kept start before readings c (DeviceDone d) f refl)
    (λ q. device_still start before (DeviceDone d) q (c.devices q) (f.devices q) (record {
      pending = device_done_pending before d q ∙ still q (eqb d q) refl;
      added = device_done_dropped before d q none;
      typed = device_done_typed before d q;
      seat = seat_of_done before d q;
    }) (waits_nothing start before (DeviceDone d) q e))
    (λ q. f.interfaces q ∙ sym (interface_not_pending before d q h))
    (f.serial ∙ sym (serial_other start before (DeviceDone d) refl))
    (frames_nothing start before (DeviceDone d) e)
    (nothing_more start before (DeviceDone d) c.queue e)
  where
    still : (q : ℕ) (b : Bool) → eqb d q ≡ b → cond b false (device_pending before q) ≡ device_pending before q
    still q true e = sym h ∙ ap (device_pending before) (eqb-true d q e)
    still q false e = refl

pub device_of_is : (before : List Said) (d : ℕ) (x : DeviceCore) → seat_of before d ≡ Some x.seat → device_of before d ≡ key_of d x
device_of_is before d x h = ap (λ (o : Option ℕ). record { seat = unwrap_or o 0; id = d }) h

-- where nothing waits, no frame is made, and none is told
pub none_told : (start : ℕ) (before : List Said) (d n t : ℕ) → group d (slots start before) ≡ [] → group_told start before d n t ≡ []
unfolding with_frame
none_told start before d n t h = ap (λ (xs : List InputEvent). map (seen (device_of before)) (with_frame xs d n t)) h

plus_none : (n : ℕ) → n + 0 ≡ n
plus_none n = omega arith

pub none_made : (start : ℕ) (before : List Said) (d : ℕ) → group d (slots start before) ≡ [] → frames_made (slots start before) + cond (eqb (length (group d (slots start before))) 0) 0 1 ≡ frames_made (slots start before)
none_made start before d h = ap (λ (xs : List InputEvent). frames_made (slots start before) + cond (eqb (length xs) 0) 0 1) h ∙ plus_none (frames_made (slots start before))

done_in_time : (start : ℕ) (before : List Said) (readings : List ℕ) (c : Core) (d : ℕ) (x : DeviceCore) → Follows start before readings c → NewIdsDiffer (DeviceDone d ∷ before) →
    IsDeviceAt start before d (Some x) → x.added ≡ false → x.typed ≡ true → TookOne start before (DeviceDone d) readings [] c (queues (put_device c d (record x { added = true })) (Given (DeviceAdded (key_of d x)) ∷ []))
done_in_time start before readings c d x f u i a t =
    let p : device_pending before d ≡ true = i.pending ∙ ap not a in
    let is_typed : device_typed before d ≡ true = i.typed a ∙ t in
    let both : (device_pending before d && device_typed before d) ≡ true = rw (p, is_typed) refl in
    let none : group d (slots start before) ≡ [] = none_waits start before d (i.added ∙ a) in
    let e : item before (DeviceDone d) ≡ Some (Other d (DeviceAdded (device_of before d))) = item_device_done before d ∙ ap (λ (b : Bool). cond b (Some (Other d (DeviceAdded (device_of before d)))) None) both in
    took start before readings c (queues (put_device c d (record x { added = true })) (Given (DeviceAdded (key_of d x)) ∷ [])) (DeviceDone d) f u
    (seats_kept start before readings c (DeviceDone d) f refl)
    (with_one (IsDeviceAt start (DeviceDone d ∷ before)) c.devices d (record x { added = true })
    (record {
      pending = device_done_pending before d d ∙ hit d false (device_pending before d);
      added = device_done_added before d d p is_typed ∙ hit d true (device_added before d);
      typed = λ no. absurd cc;
      seat = seat_of_done before d d ∙ i.seat;
      waiting = i.waiting ∙ none ∙ sym (waits_done start before d d p is_typed ∙ hit d [] (group d (slots start before)));
    })
    (λ q no. device_still start before (DeviceDone d) q (c.devices q) (f.devices q) (record {
      pending = device_done_pending before d q ∙ miss d q false (device_pending before q) no;
      added = device_done_added before d q p is_typed ∙ miss d q true (device_added before q) no;
      typed = device_done_typed before d q;
      seat = seat_of_done before d q;
    }) (waits_done start before d q p is_typed ∙ miss d q [] (group q (slots start before)) no)))
    (λ q. f.interfaces q ∙ sym (interface_done before d q is_typed))
    (f.serial ∙ sym (serial_other start before (DeviceDone d) refl))
    (frames_other start before (DeviceDone d) d (DeviceAdded (device_of before d)) e ∙ none_made start before d none)
    (λ times. ap (λ (r : List Report). c.queue ++ r) (sym (tells_other start times before (DeviceDone d) d (DeviceAdded (device_of before d)) e
    ∙ ap (λ (r : List Report). r ++ (Given (DeviceAdded (device_of before d)) ∷ [])) (none_told start before d _ _ none)
    ∙ ap (λ (k : Device). Given (DeviceAdded k) ∷ []) (device_of_is before d x i.seat))))

done_dropped : (start : ℕ) (before : List Said) (readings : List ℕ) (c : Core) (d : ℕ) (x : DeviceCore) → Follows start before readings c → NewIdsDiffer (DeviceDone d ∷ before) →
    IsDeviceAt start before d (Some x) → x.added ≡ false → x.typed ≡ false → TookOne start before (DeviceDone d) readings [] c (drops c d)
done_dropped start before readings c d x f u i a t =
    let p : device_pending before d ≡ true = i.pending ∙ ap not a in
    let untyped : device_typed before d ≡ false = i.typed a ∙ t in
    let not_both : (device_pending before d && device_typed before d) ≡ false = rw (p, untyped) refl in
    let e : item before (DeviceDone d) ≡ None = item_device_done before d ∙ ap (λ (b : Bool). cond b (Some (Other d (DeviceAdded (device_of before d)))) None) not_both in
    took start before readings c (drops c d) (DeviceDone d) f u
    (seats_kept start before readings c (DeviceDone d) f refl)
    (without_one (IsDeviceAt start (DeviceDone d ∷ before)) c.devices d
    (record {
      pending = device_done_pending before d d ∙ hit d false (device_pending before d);
      added = device_done_dropped before d d not_both ∙ i.added ∙ a;
      typed = tt;
      seat = tt;
      waiting = sym (waits_nothing start before (DeviceDone d) d e ∙ none_waits start before d (i.added ∙ a));
    })
    (λ q no. device_still start before (DeviceDone d) q (c.devices q) (f.devices q) (record {
      pending = device_done_pending before d q ∙ miss d q false (device_pending before q) no;
      added = device_done_dropped before d q not_both;
      typed = device_done_typed before d q;
      seat = seat_of_done before d q;
    }) (waits_nothing start before (DeviceDone d) q e)))
    (λ q. without_of_is start before readings c d q f ∙ sym (interface_dropped before d q p untyped))
    (f.serial ∙ sym (serial_other start before (DeviceDone d) refl))
    (frames_nothing start before (DeviceDone d) e)
    (nothing_more start before (DeviceDone d) c.queue e)

pub device_done_one : (start : ℕ) (before : List Said) (readings : List ℕ) (c : Core) (d : ℕ) → Follows start before readings c → NewIdsDiffer (DeviceDone d ∷ before) →
    TookOne start before (DeviceDone d) readings [] c (device_is_done c d (device_in c d))
device_done_one start before readings c d f u = by (device_in c d) refl
  where
    by : (o : Option DeviceCore) → device_in c d ≡ o → TookOne start before (DeviceDone d) readings [] c (device_is_done c d o)
    by None e = done_late start before readings c d f u ((f.devices d).pending ∙ ap pending_device e)
    by (Some x) e = at x.added x.typed refl refl (subst (IsDeviceAt start before d) e (f.devices d))
      where
        at : (a t : Bool) → x.added ≡ a → x.typed ≡ t → IsDeviceAt start before d (Some x) → TookOne start before (DeviceDone d) readings [] c
            (cond a c (cond t (queues (put_device c d (record x { added = true })) (Given (DeviceAdded (key_of d x)) ∷ [])) (drops c d)))
        at true t ha ht i = done_late start before readings c d f u (i.pending ∙ ap not ha)
        at false true ha ht i = done_in_time start before readings c d x f u i ha ht
        at false false ha ht i = done_dropped start before readings c d x f u i ha ht

-- ---- an input

input_waits : (start : ℕ) (before : List Said) (readings : List ℕ) (c : Core) (id d : ℕ) (x : InputEvent) (o : Option DeviceCore) → Follows start before readings c → NewIdsDiffer (Inputs id x ∷ before) →
    holder before id ≡ Some d → device_in c d ≡ o → TookOne start before (Inputs id x) readings [] c (waits_on c d x o)
input_waits start before readings c id d x None f u h e =
    let clash : true ≡ false = sym (holder_added before id d h) ∙ (f.devices d).added ∙ ap added_device e in absurd cc
input_waits start before readings c id d x (Some y) f u h e =
    let i : IsDeviceAt start before d (Some y) = subst (IsDeviceAt start before d) e (f.devices d) in
    let it : item before (Inputs id x) ≡ Some (Waiting d x) = item_input before id x ∙ ap (waiting x) h in
    let s : (q : ℕ) → Still before (Inputs id x) q = λ q. still_other before (Inputs id x) q refl in
    took start before readings c (put_device c d (record y { waiting = y.waiting ++ x ∷ [] })) (Inputs id x) f u
    (seats_kept start before readings c (Inputs id x) f refl)
    (with_one (IsDeviceAt start (Inputs id x ∷ before)) c.devices d (record y { waiting = y.waiting ++ x ∷ [] })
    (record {
      pending = (s d).pending ∙ i.pending;
      added = (s d).added ∙ i.added;
      typed = λ a. (s d).typed ∙ i.typed a;
      seat = (s d).seat ∙ i.seat;
      waiting = ap (λ (xs : List InputEvent). xs ++ x ∷ []) i.waiting ∙ sym (waits_input start before id d d x h ∙ hit d (group d (slots start before) ++ (x ∷ [])) (group d (slots start before)));
    })
    (λ q no. device_still start before (Inputs id x) q (c.devices q) (f.devices q) (s q)
    (waits_input start before id d q x h ∙ miss d q (group q (slots start before) ++ (x ∷ [])) (group q (slots start before)) no)))
    (interfaces_kept start before readings c (Inputs id x) f refl)
    (f.serial ∙ sym (serial_other start before (Inputs id x) refl))
    (frames_input start before (Inputs id x) d x it)
    (λ times. sym (nil_right c.queue) ∙ ap (λ (r : List Report). c.queue ++ r) (sym (tells_input start times before (Inputs id x) d x it)))

pub input_one : (start : ℕ) (before : List Said) (readings : List ℕ) (c : Core) (id : ℕ) (x : InputEvent) → Follows start before readings c → NewIdsDiffer (Inputs id x ∷ before) →
    TookOne start before (Inputs id x) readings [] c (input_comes c x (holder_in c id))
input_one start before readings c id x f u = by (holder_in c id) (sym (holder_is start before readings c id f))
  where
    by : (o : Option ℕ) → holder before id ≡ o → TookOne start before (Inputs id x) readings [] c (input_comes c x o)
    by None h = quiet start before readings c (Inputs id x) f u refl refl refl refl (item_input before id x ∙ ap (waiting x) h)
    by (Some d) h = input_waits start before readings c id d x (device_in c d) f u h refl
