-- What is reported, after one more event.
use Rattle.std.proofs.Common.{◌≡◌, ℕ, ◌+◌, ◌≤◌, cond, eqb, false, List, [], ◌∷◌, ◌++◌, length, Option, Some, None, refl, sym, ap, ◌∙◌, arith}
use Rattle.std.proofs.lemmas.Bool.Decides.{nat_tests}
use Rattle.std.specs.Prelude.{unwrap_or, map, slice_index}
use Rattle.std.proofs.lemmas.List.{map-append, append-nil}
use Rattle.ei_spec.specs.History.{each, joined}
use Rattle.ei_spec.specs.Groups.{Input as Waiting, Frame as Framing, Other, Free, Given, Timed, Framed, Plain as Given_plain, seen, gives, group}
use Rattle.ei_spec.specs.Groups.{frames_made, grouped, with_frame}
use Rattle.ei_spec.proofs.HistoryLaws.{said_now, said_before, each_more, joined_more, joined_prefix}
use Rattle.ei_spec.proofs.GroupsLaws.{waits, group_more, frames_made_more, made_by, grouped_more, gives_later}
use Rattle.ei_types.specs.declared.error.EventError.{EventError}
use Rattle.ei_input.specs.declared.input_event.InputEvent.{InputEvent}
use Rattle.ei_reported.specs.Event.{Event}
use Rattle.ei_reported.specs.Said.{Said, said}
use Rattle.ei_reported.specs.Reported.{Device, device_of, Plain, Report, Giving, refusal, item, keeps, serial, slot, slots, tells, reported}

-- ---- one more event

serial_at : (start : ℕ) (before : List Said) (m : Said) (x : Option ℕ) → keeps before m ≡ x → serial start (m ∷ before) ≡ unwrap_or x (serial start before)
unfolding serial
serial_at start before m (Some n) e = ap (λ (x : Option ℕ). unwrap_or x start) (said_now keeps before m n e)
serial_at start before m None e = ap (λ (x : Option ℕ). unwrap_or x start) (said_before keeps before m e)

pub serial_more : (start : ℕ) (before : List Said) (m : Said) → serial start (m ∷ before) ≡ unwrap_or (keeps before m) (serial start before)
serial_more start before m = serial_at start before m (keeps before m) refl

pub slots_more : (start : ℕ) (before : List Said) (m : Said) → slots start (m ∷ before) ≡ slot start before m ∷ slots start before
slots_more start before m = each_more (slot start) before m

pub reported_more : (start : ℕ) (readings : List ℕ) (before : List Event) (e : Event) →
    reported start readings (e ∷ before) ≡ reported start readings before ++ tells start readings (map said before) (said e)
unfolding reported
reported_more start readings before e = joined_more (tells start readings) (map said before) (said e)

pub reported_prefix : (start : ℕ) (readings : List ℕ) (more before : List Event) → (rest : List Report) × (reported start readings (more ++ before) ≡ reported start readings before ++ rest)
unfolding reported
reported_prefix start readings more before =
    let h = joined_prefix (tells start readings) (map said more) (map said before) in
    (h.0, ap (joined (tells start readings)) (map-append said more before) ∙ h.1)

-- ---- the items by name

-- what a slot gives, by its item
item_slot : (start : ℕ) (before : List Said) (m : Said) (o : Option Giving) → item before m ≡ o → slot start before m ≡ record { item = o; serial = serial start (m ∷ before) }
unfolding slot
item_slot start before m o e = rw e refl

tells_by : (start : ℕ) (readings : List ℕ) (before : List Said) (m : Said) (o : Option Giving) → item before m ≡ o →
    tells start readings before m ≡ map (seen (device_of before)) (gives readings (slots start before) (record { item = o; serial = serial start (m ∷ before) }))
unfolding tells
tells_by start readings before m o e = ap (λ x. map (seen (device_of before)) (gives readings (slots start before) x)) (item_slot start before m o e)

pub tells_nothing : (start : ℕ) (readings : List ℕ) (before : List Said) (m : Said) → item before m ≡ None → tells start readings before m ≡ []
unfolding gives
tells_nothing start readings before m e = tells_by start readings before m None e

pub tells_input : (start : ℕ) (readings : List ℕ) (before : List Said) (m : Said) (d : ℕ) (x : InputEvent) → item before m ≡ Some (Waiting d x) → tells start readings before m ≡ []
unfolding gives
tells_input start readings before m d x e = tells_by start readings before m (Some (Waiting d x)) e

pub tells_frame : (start : ℕ) (readings : List ℕ) (before : List Said) (m : Said) (d s t : ℕ) → item before m ≡ Some (Framing d s t) →
    tells start readings before m ≡ map (seen (device_of before)) (with_frame (group d (slots start before)) d s t)
unfolding gives
tells_frame start readings before m d s t e = tells_by start readings before m (Some (Framing d s t)) e

pub tells_other : (start : ℕ) (readings : List ℕ) (before : List Said) (m : Said) (d : ℕ) (y : Plain) → item before m ≡ Some (Other d y) →
    tells start readings before m ≡ map (seen (device_of before)) (with_frame (group d (slots start before)) d (serial start (m ∷ before)) (slice_index readings (frames_made (slots start before)))) ++ (Given_plain y ∷ [])
unfolding gives
tells_other start readings before m d y e =
    tells_by start readings before m (Some (Other d y)) e
    ∙ map-append (seen (device_of before)) (with_frame (group d (slots start before)) d (serial start (m ∷ before)) (slice_index readings (frames_made (slots start before)))) (Given_plain y ∷ [])

pub tells_free : (start : ℕ) (readings : List ℕ) (before : List Said) (m : Said) (y : Plain) → item before m ≡ Some (Free y) → tells start readings before m ≡ Given_plain y ∷ []
unfolding gives
tells_free start readings before m y e = tells_by start readings before m (Some (Free y)) e

pub group_by : (start : ℕ) (before : List Said) (m : Said) (device : ℕ) (o : Option Giving) → item before m ≡ o → group device (slots start (m ∷ before)) ≡ waits device (group device (slots start before)) o
unfolding slot
group_by start before m device o e =
    ap (group device) (slots_more start before m) ∙ group_more device (slots start before) (slot start before m) ∙ ap (waits device (group device (slots start before))) e

-- ---- later readings

pub tells_readings : (start : ℕ) (readings later : List ℕ) (before : List Said) (m : Said) → frames_made (slots start (m ∷ before)) ≤ length readings →
    tells start (readings ++ later) before m ≡ tells start readings before m
unfolding tells
tells_readings start readings later before m le =
    ap (map (seen (device_of before))) (gives_later readings later (slots start before) (slot start before m) (rw (← slots_more start before m) le))

pub frames_by : (start : ℕ) (before : List Said) (m : Said) (o : Option Giving) → item before m ≡ o → frames_made (slots start (m ∷ before)) ≡ frames_made (slots start before) + made_by (λ d. group d (slots start before)) o
unfolding slot
frames_by start before m o e =
    ap frames_made (slots_more start before m) ∙ frames_made_more (slots start before) (slot start before m)
    ∙ ap (λ (x : Option Giving). frames_made (slots start before) + made_by (λ d. group d (slots start before)) x) e

-- 1 for a group of some inputs
one_for_some : (xs : List InputEvent) → ◌≡◌ {A = ℕ} (elim xs [ [] ↦ 0 | _ ∷ _ ↦ 1 ]) (cond (eqb (length xs) 0) 0 1)
one_for_some [] = refl
one_for_some (x ∷ xs) = let e : eqb (length (x ∷ xs)) 0 ≡ false = grind (arith, nat_tests) in rw e refl

pub frames_other : (start : ℕ) (before : List Said) (m : Said) (d : ℕ) (y : Plain) → item before m ≡ Some (Other d y) →
    frames_made (slots start (m ∷ before)) ≡ frames_made (slots start before) + cond (eqb (length (group d (slots start before))) 0) 0 1
frames_other start before m d y e =
    frames_by start before m (Some (Other d y)) e ∙ ap (λ (n : ℕ). frames_made (slots start before) + n) (one_for_some (group d (slots start before)))

pub frames_input : (start : ℕ) (before : List Said) (m : Said) (d : ℕ) (x : InputEvent) → item before m ≡ Some (Waiting d x) → frames_made (slots start (m ∷ before)) ≡ frames_made (slots start before)
frames_input start before m d x e = let h = frames_by start before m (Some (Waiting d x)) e in omega (arith, h)

pub frames_frame : (start : ℕ) (before : List Said) (m : Said) (d s t : ℕ) → item before m ≡ Some (Framing d s t) → frames_made (slots start (m ∷ before)) ≡ frames_made (slots start before)
frames_frame start before m d s t e = let h = frames_by start before m (Some (Framing d s t)) e in omega (arith, h)

pub frames_free : (start : ℕ) (before : List Said) (m : Said) (y : Plain) → item before m ≡ Some (Free y) → frames_made (slots start (m ∷ before)) ≡ frames_made (slots start before)
frames_free start before m y e = let h = frames_by start before m (Some (Free y)) e in omega (arith, h)

pub frames_nothing : (start : ℕ) (before : List Said) (m : Said) → item before m ≡ None → frames_made (slots start (m ∷ before)) ≡ frames_made (slots start before)
frames_nothing start before m e = let h = frames_by start before m None e in omega (arith, h)

frames_grow : (start : ℕ) (before : List Said) (m : Said) → frames_made (slots start before) ≤ frames_made (slots start (m ∷ before))
frames_grow start before m =
    let more = ap frames_made (slots_more start before m) ∙ frames_made_more (slots start before) (slot start before m) in
    omega (arith, more)

said_readings : (start : ℕ) (readings later : List ℕ) (before : List Said) → frames_made (slots start before) ≤ length readings → joined (tells start (readings ++ later)) before ≡ joined (tells start readings) before
unfolding joined
said_readings start readings later [] le = refl
said_readings start readings later (m ∷ before) le =
    let grow = frames_grow start before m in
    rw (said_readings start readings later before (omega (arith, grow)), tells_readings start readings later before m le) refl

pub reported_readings : (start : ℕ) (readings later : List ℕ) (events : List Event) → frames_made (slots start (map said events)) ≤ length readings → reported start (readings ++ later) events ≡ reported start readings events
unfolding reported
reported_readings start readings later events le = said_readings start readings later (map said events) le

-- ---- without the seats

seen_twice : {X Y : Type 0} (before : List Said) (g : Given ℕ X Y) → seen Device.id (seen (device_of before) g) ≡ g
seen_twice before (Timed d x t) = refl
seen_twice before (Framed d s t) = refl
seen_twice before (Given_plain y) = refl

all_seen_twice : {X Y : Type 0} (before : List Said) (gs : List (Given ℕ X Y)) → map (seen Device.id) (map (seen (device_of before)) gs) ≡ gs
all_seen_twice before [] = refl
all_seen_twice before (g ∷ gs) = rw (seen_twice before g, all_seen_twice before gs) refl

tells_seatless : (start : ℕ) (readings : List ℕ) (before : List Said) (m : Said) → map (seen Device.id) (tells start readings before m) ≡ gives readings (slots start before) (slot start before m)
unfolding tells
tells_seatless start readings before m = all_seen_twice before (gives readings (slots start before) (slot start before m))

said_seatless : (start : ℕ) (readings : List ℕ) (before : List Said) → map (seen Device.id) (joined (tells start readings) before) ≡ grouped readings (slots start before)
unfolding joined grouped each
said_seatless start readings [] = refl
said_seatless start readings (m ∷ before) =
    map-append (seen Device.id) (joined (tells start readings) before) (tells start readings before m)
    ∙ rw (said_seatless start readings before, tells_seatless start readings before m) (sym (grouped_more readings (slots start before) (slot start before m)))

pub without_seats : (start : ℕ) (readings : List ℕ) (events : List Event) → map (seen Device.id) (reported start readings events) ≡ grouped readings (slots start (map said events))
unfolding reported
without_seats start readings events = said_seatless start readings (map said events)

-- ---- a refused event

pub refused_item : (before : List Said) (m : Said) (e : EventError) → refusal before m ≡ Some e → item before m ≡ None
unfolding item
refused_item before m e h = rw (h, item) refl

pub refused_tells : (start : ℕ) (readings : List ℕ) (before : List Said) (m : Said) (e : EventError) → refusal before m ≡ Some e → tells start readings before m ≡ []
refused_tells start readings before m e h = tells_nothing start readings before m (refused_item before m e h)

pub refused_reported : (start : ℕ) (readings : List ℕ) (before : List Event) (e : Event) (why : EventError) → refusal (map said before) (said e) ≡ Some why → reported start readings (e ∷ before) ≡ reported start readings before
refused_reported start readings before e why h =
    reported_more start readings before e
    ∙ ap (λ (x : List Report). reported start readings before ++ x) (refused_tells start readings (map said before) (said e) why h)
    ∙ append-nil (reported start readings before)

pub refused_waiting : (start : ℕ) (before : List Said) (m : Said) (e : EventError) (d : ℕ) → refusal before m ≡ Some e → group d (slots start (m ∷ before)) ≡ group d (slots start before)
refused_waiting start before m e d h = group_by start before m d None (refused_item before m e h)
