-- One more event of a seat.
use Rattle.std.proofs.Common.{◌≡◌, ℕ, Bool, true, false, not, cond, eqb, List, [], ◌∷◌, ◌++◌, Option, Some, None, refl, sym, ap, ◌∙◌}
use Rattle.std.proofs.lemmas.Bool.{eqb-true}
use Rattle.ei_spec.specs.Groups.{group, frames_made, Free, Plain as Given}
use Rattle.ei_reported.specs.Said.{Said, SeatComes, SeatDone, SeatGoes}
use Rattle.ei_reported.specs.Standing.{seat_pending, seat_added}
use Rattle.ei_reported.specs.Reported.{slots, item, SeatAdded, SeatRemoved}
use Rattle.ei_reported.specs.Changes.{NewIdsDiffer, brought}
use Rattle.ei_reported.proofs.AfterEachKind.{pending_comes, pending_done, pending_goes, added_comes, added_done, added_refused, added_goes}
use Rattle.ei_reported.proofs.NeverBrought.{new_seat_added}
use Rattle.ei_reported.proofs.ReportedLaws.{tells_free, frames_nothing, frames_free}
use Rattle.ei_reported.proofs.NoneWaits.{waits_nothing, waits_free}
use Rattle.ei_reported.proofs.ItemsAndSerials.{item_seat_done, item_seat_goes, item_other, serial_other, serial_seat_goes}
use Rattle.ei_following.specs.Core.{put, take_out, SeatCore, Core, pending_seat, added_seat, seat_in, queues, put_seat, seat_is_done, seat_is_gone}
use Rattle.ei_following.specs.Following.{IsSeatAt, Follows, TookOne}
use Rattle.ei_following.proofs.Maps.{same, hit, miss, with_one, without_one}
use Rattle.ei_following.proofs.Keeping.{devices_kept, interfaces_kept, took, nothing_more}

pub seat_comes : (start : ℕ) (before : List Said) (readings : List ℕ) (c : Core) (s : ℕ) → Follows start before readings c → NewIdsDiffer (SeatComes s ∷ before) →
    TookOne start before (SeatComes s) readings [] c (put_seat c s false)
seat_comes start before readings c s f d =
    let new : brought before s ≡ false = d.0 s (same s) in
    let e : item before (SeatComes s) ≡ None = item_other before (SeatComes s) refl in
    took start before readings c (put_seat c s false) (SeatComes s) f d
    (with_one (IsSeatAt (SeatComes s ∷ before)) c.seats s (record { added = false })
    (record { pending = pending_comes before s s ∙ hit s true (seat_pending before s); added = added_comes before s s ∙ new_seat_added before s new })
    (λ q no. record { pending = pending_comes before s q ∙ miss s q true (seat_pending before q) no ∙ (f.seats q).pending; added = added_comes before s q ∙ (f.seats q).added }))
    (devices_kept start before readings c (SeatComes s) f refl (λ id. waits_nothing start before (SeatComes s) id e))
    (interfaces_kept start before readings c (SeatComes s) f refl)
    (f.serial ∙ sym (serial_other start before (SeatComes s) refl))
    (frames_nothing start before (SeatComes s) e)
    (nothing_more start before (SeatComes s) c.queue e)

none_pending : (p : ℕ → Bool) (s q : ℕ) (b : Bool) → eqb s q ≡ b → p s ≡ false → cond b false (p q) ≡ p q
none_pending p s q true e h = sym h ∙ ap p (eqb-true s q e)
none_pending p s q false e h = refl

seat_late : (start : ℕ) (before : List Said) (readings : List ℕ) (c : Core) (s : ℕ) → Follows start before readings c → NewIdsDiffer (SeatDone s ∷ before) →
    seat_pending before s ≡ false → TookOne start before (SeatDone s) readings [] c c
seat_late start before readings c s f d h =
    let e : item before (SeatDone s) ≡ None = item_seat_done before s ∙ ap (λ (b : Bool). cond b (Some (Free (SeatAdded s))) None) h in
    took start before readings c c (SeatDone s) f d
    (λ q. record { pending = pending_done before s q ∙ none_pending (seat_pending before) s q (eqb s q) refl h ∙ (f.seats q).pending; added = added_refused before s q h ∙ (f.seats q).added })
    (devices_kept start before readings c (SeatDone s) f refl (λ id. waits_nothing start before (SeatDone s) id e))
    (interfaces_kept start before readings c (SeatDone s) f refl)
    (f.serial ∙ sym (serial_other start before (SeatDone s) refl))
    (frames_nothing start before (SeatDone s) e)
    (nothing_more start before (SeatDone s) c.queue e)

seat_in_time : (start : ℕ) (before : List Said) (readings : List ℕ) (c : Core) (s : ℕ) → Follows start before readings c → NewIdsDiffer (SeatDone s ∷ before) →
    seat_pending before s ≡ true → TookOne start before (SeatDone s) readings [] c (queues (put_seat c s true) (Given (SeatAdded s) ∷ []))
seat_in_time start before readings c s f d h =
    let e : item before (SeatDone s) ≡ Some (Free (SeatAdded s)) = item_seat_done before s ∙ ap (λ (b : Bool). cond b (Some (Free (SeatAdded s))) None) h in
    took start before readings c (queues (put_seat c s true) (Given (SeatAdded s) ∷ [])) (SeatDone s) f d
    (with_one (IsSeatAt (SeatDone s ∷ before)) c.seats s (record { added = true })
    (record { pending = pending_done before s s ∙ hit s false (seat_pending before s); added = added_done before s s h ∙ hit s true (seat_added before s) })
    (λ q no. record { pending = pending_done before s q ∙ miss s q false (seat_pending before q) no ∙ (f.seats q).pending; added = added_done before s q h ∙ miss s q true (seat_added before q) no ∙ (f.seats q).added }))
    (devices_kept start before readings c (SeatDone s) f refl (λ id. waits_free start before (SeatDone s) (SeatAdded s) id e))
    (interfaces_kept start before readings c (SeatDone s) f refl)
    (f.serial ∙ sym (serial_other start before (SeatDone s) refl))
    (frames_free start before (SeatDone s) (SeatAdded s) e)
    (λ times. ap (λ r. c.queue ++ r) (sym (tells_free start times before (SeatDone s) (SeatAdded s) e)))

pub seat_done_one : (start : ℕ) (before : List Said) (readings : List ℕ) (c : Core) (s : ℕ) → Follows start before readings c → NewIdsDiffer (SeatDone s ∷ before) →
    TookOne start before (SeatDone s) readings [] c (seat_is_done c s (seat_in c s))
seat_done_one start before readings c s f d = by (seat_in c s) refl
  where
    by : (o : Option SeatCore) → seat_in c s ≡ o → TookOne start before (SeatDone s) readings [] c (seat_is_done c s o)
    by None e = seat_late start before readings c s f d ((f.seats s).pending ∙ ap pending_seat e)
    by (Some x) e = at x.added ((f.seats s).pending ∙ ap pending_seat e)
      where
        at : (a : Bool) → seat_pending before s ≡ not a → TookOne start before (SeatDone s) readings [] c (cond a c (queues (put_seat c s true) (Given (SeatAdded s) ∷ [])))
        at true h = seat_late start before readings c s f d h
        at false h = seat_in_time start before readings c s f d h

pub seat_goes_one : (start : ℕ) (before : List Said) (readings : List ℕ) (c : Core) (s n : ℕ) → Follows start before readings c → NewIdsDiffer (SeatGoes s n ∷ before) →
    TookOne start before (SeatGoes s n) readings [] c (seat_is_gone c s n (added_seat (seat_in c s)))
seat_goes_one start before readings c s n f d = by (added_seat (seat_in c s)) (f.seats s).added
  where
    seats : (q : ℕ) → IsSeatAt (SeatGoes s n ∷ before) q (take_out c.seats s q)
    seats = without_one (IsSeatAt (SeatGoes s n ∷ before)) c.seats s
        (record { pending = pending_goes before s n s ∙ hit s false (seat_pending before s); added = added_goes before s n s ∙ hit s false (seat_added before s) })
        (λ q no. record { pending = pending_goes before s n q ∙ miss s q false (seat_pending before q) no ∙ (f.seats q).pending; added = added_goes before s n q ∙ miss s q false (seat_added before q) no ∙ (f.seats q).added })

    by : (a : Bool) → seat_added before s ≡ a → TookOne start before (SeatGoes s n) readings [] c (seat_is_gone c s n a)
    by true h =
        let e : item before (SeatGoes s n) ≡ Some (Free (SeatRemoved s)) = item_seat_goes before s n ∙ ap (λ (b : Bool). cond b (Some (Free (SeatRemoved s))) None) h in
        took start before readings c (seat_is_gone c s n true) (SeatGoes s n) f d seats
        (devices_kept start before readings c (SeatGoes s n) f refl (λ id. waits_free start before (SeatGoes s n) (SeatRemoved s) id e))
        (interfaces_kept start before readings c (SeatGoes s n) f refl)
        (sym (serial_seat_goes start before s n))
        (frames_free start before (SeatGoes s n) (SeatRemoved s) e)
        (λ times. ap (λ r. c.queue ++ r) (sym (tells_free start times before (SeatGoes s n) (SeatRemoved s) e)))
    by false h =
        let e : item before (SeatGoes s n) ≡ None = item_seat_goes before s n ∙ ap (λ (b : Bool). cond b (Some (Free (SeatRemoved s))) None) h in
        took start before readings c (seat_is_gone c s n false) (SeatGoes s n) f d seats
        (devices_kept start before readings c (SeatGoes s n) f refl (λ id. waits_nothing start before (SeatGoes s n) id e))
        (interfaces_kept start before readings c (SeatGoes s n) f refl)
        (sym (serial_seat_goes start before s n))
        (frames_nothing start before (SeatGoes s n) e)
        (nothing_more start before (SeatGoes s n) c.queue e)
