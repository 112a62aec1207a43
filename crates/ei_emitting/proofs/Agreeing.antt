-- What a client was told agrees with slots, so that it reports the same of both.
use Rattle.std.proofs.Common.{◌≡◌, ℕ, ◌+◌, Bool, true, cond, List, [], ◌∷◌, ◌++◌, map, Option, Some, None, refl, sym, ap, ◌∙◌, append-nil}
use Rattle.std.specs.Prelude.{slice_index}
use Rattle.std.proofs.lemmas.List.{map-append}
use Rattle.ei_spec.specs.Groups.{Input as Waiting, Frame as Framing, Other, Free, Given, Timed, Framed, Plain as Told, Slot, seen, timed, with_frame, group, frames_made, gives, grouped}
use Rattle.ei_spec.proofs.GroupsLaws.{waits, made_by, group_more, grouped_more, frames_made_more}
use Rattle.ei_input.specs.declared.input_event.InputEvent.{InputEvent}
use Rattle.ei_session.specs.Setup.{seat_id}
use Rattle.ei_reported.specs.Event.{Event}
use Rattle.ei_reported.specs.Said.{Told as Telling, Resumed, Paused, StartEmulating, StopEmulating, Frame, Said, DeviceTells, said}
use Rattle.ei_reported.specs.Standing.{device_added}
use Rattle.ei_reported.specs.Reported.{Device, Report, Plain, Giving, SeatAdded, DevicePaused, DeviceResumed, DeviceStartEmulating, DeviceStopEmulating, device_of, item, telling, serial as told_serial, slots as told_slots, tells, reported}
use Rattle.ei_reported.proofs.ReportedLaws.{reported_more, tells_nothing, tells_input, tells_frame, tells_other, group_by, frames_by, frames_nothing}
use Rattle.ei_reported.proofs.ItemsAndSerials.{item_device_tells, serial_device_tells}
use Rattle.ei_reported.proofs.NoneWaits.{waits_nothing}
use Rattle.ei_emitting.specs.Emitted.{device_by, slot_with}

-- what was told, the newest first, is what these slots give, behind the one seat
pub record Agrees (start : ℕ) (events : List Event) (es : List (Slot InputEvent Plain)) : Type 0 where
  pub groups : (id : ℕ) → group id (told_slots start (map said events)) ≡ group id es
  pub frames : frames_made (told_slots start (map said events)) ≡ frames_made es
  pub reports : (readings : List ℕ) → reported start readings events ≡ Told (SeatAdded seat_id) ∷ map (seen device_by) (grouped readings es)

-- ---- an event that gives nothing

pub quiet : (start : ℕ) (events : List Event) (es : List (Slot InputEvent Plain)) (e : Event) → item (map said events) (said e) ≡ None → Agrees start events es → Agrees start (e ∷ events) es
quiet start events es e none a = record {
  groups = λ id. waits_nothing start (map said events) (said e) id none ∙ a.groups id;
  frames = frames_nothing start (map said events) (said e) none ∙ a.frames;
  reports = λ readings. reported_more start readings events e
      ∙ ap (λ (l : List Report). reported start readings events ++ l) (tells_nothing start readings (map said events) (said e) none)
      ∙ append-nil (reported start readings events) ∙ a.reports readings;
}

-- ---- an event and a slot that give the same

made_same : (f g : ℕ → List InputEvent) → ((d : ℕ) → f d ≡ g d) → (o : Option Giving) → made_by f o ≡ made_by g o
made_same f g h None = refl
made_same f g h (Some (Waiting d x)) = refl
made_same f g h (Some (Framing d s t)) = refl
made_same f g h (Some (Other d y)) = ap (λ (xs : List InputEvent). made_by (λ (n : ℕ). xs) (Some (Other d y))) (h d)
made_same f g h (Some (Free y)) = refl

one_more : (start : ℕ) (events : List Event) (es : List (Slot InputEvent Plain)) (e : Event) (o : Option Giving) (n : ℕ) → item (map said events) (said e) ≡ o →
    ((readings : List ℕ) → tells start readings (map said events) (said e) ≡ map (seen device_by) (gives readings es (slot_with n o))) → Agrees start events es → Agrees start (e ∷ events) (slot_with n o ∷ es)
one_more start events es e o n is told a = record {
  groups = λ id. group_by start (map said events) (said e) id o is ∙ ap (λ (xs : List InputEvent). waits id xs o) (a.groups id) ∙ sym (group_more id es (slot_with n o));
  frames = frames_by start (map said events) (said e) o is
      ∙ ap (λ (k : ℕ). k + made_by (λ d. group d (told_slots start (map said events))) o) a.frames
      ∙ ap (λ (k : ℕ). frames_made es + k) (made_same (λ d. group d (told_slots start (map said events))) (λ d. group d es) a.groups o)
      ∙ sym (frames_made_more es (slot_with n o));
  reports = λ readings. reported_more start readings events e
      ∙ ap (λ (l : List Report). l ++ tells start readings (map said events) (said e)) (a.reports readings)
      ∙ ap (λ (l : List Report). (Told (SeatAdded seat_id) ∷ map (seen device_by) (grouped readings es)) ++ l) (told readings)
      ∙ ap (λ (l : List Report). Told (SeatAdded seat_id) ∷ l) (sym (map-append (seen device_by) (grouped readings es) (gives readings es (slot_with n o)))
      ∙ ap (map (seen device_by)) (sym (grouped_more readings es (slot_with n o))));
}

-- ---- by the kind of what is given

-- a frame of a device and what waits for it, where the device is seen so
timed_seen : (f : ℕ → Device) (d time : ℕ) (xs : List InputEvent) (more : List (Given ℕ InputEvent Plain)) → f d ≡ device_by d → map (seen f) more ≡ map (seen device_by) more →
    map (seen f) (timed d time xs ++ more) ≡ map (seen device_by) (timed d time xs ++ more)
unfolding timed
timed_seen f d time [] more e rest = rest
timed_seen f d time (x ∷ xs) more e rest =
    ap (λ (v : Device). Timed v x time ∷ map (seen f) (timed d time xs ++ more)) e
    ∙ ap (λ (l : List Report). Timed (device_by d) x time ∷ l) (timed_seen f d time xs more e rest)

frame_seen : (f : ℕ → Device) (d serial time : ℕ) (xs : List InputEvent) → f d ≡ device_by d → map (seen f) (with_frame {Y = Plain} xs d serial time) ≡ map (seen device_by) (with_frame {Y = Plain} xs d serial time)
unfolding with_frame
frame_seen f d serial time [] e = refl
frame_seen f d serial time (x ∷ xs) e = timed_seen f d time (x ∷ xs) (Framed d serial time ∷ []) e (ap (λ (v : Device). let l : List Report = Framed v serial time ∷ [] in l) e)

-- another item of a device, where nothing waits or the serial is the same
pub other : (start : ℕ) (events : List Event) (es : List (Slot InputEvent Plain)) (e : Event) (d n : ℕ) (y : Plain) → item (map said events) (said e) ≡ Some (Other d y) →
    device_of (map said events) d ≡ device_by d →
    ((time : ℕ) → with_frame {Y = Plain} (group d es) d (told_serial start (said e ∷ map said events)) time ≡ with_frame {Y = Plain} (group d es) d n time) →
    Agrees start events es → Agrees start (e ∷ events) (slot_with n (Some (Other d y)) ∷ es)
unfolding gives
other start events es e d n y is of same a = one_more start events es e (Some (Other d y)) n is told a
  where
    before : List Said
    before = map said events

    told : (readings : List ℕ) → tells start readings before (said e) ≡ map (seen device_by) (gives readings es (slot_with n (Some (Other d y))))
    told readings =
        let last : ℕ = told_serial start (said e ∷ before) in
        let time : ℕ = slice_index readings (frames_made (told_slots start before)) in
        tells_other start readings before (said e) d y is
        ∙ ap (λ (l : List Report). l ++ (Told y ∷ [])) (frame_seen (device_of before) d last time (group d (told_slots start before)) of
        ∙ ap (λ (xs : List InputEvent). map (seen device_by) (with_frame {Y = Plain} xs d last time)) (a.groups d)
        ∙ ap (λ (l : List (Given ℕ InputEvent Plain)). map (seen device_by) l) (same time)
        ∙ ap (λ (k : ℕ). map (seen device_by) (with_frame {Y = Plain} (group d es) d n (slice_index readings k))) a.frames)
        ∙ sym (map-append (seen device_by) (with_frame {Y = Plain} (group d es) d n (slice_index readings (frames_made es))) (Told y ∷ []))

pub framed : (start : ℕ) (events : List Event) (es : List (Slot InputEvent Plain)) (e : Event) (d s time n : ℕ) → item (map said events) (said e) ≡ Some (Framing d s time) →
    device_of (map said events) d ≡ device_by d → Agrees start events es → Agrees start (e ∷ events) (slot_with n (Some (Framing d s time)) ∷ es)
unfolding gives
framed start events es e d s time n is of a = one_more start events es e (Some (Framing d s time)) n is
    (λ readings. tells_frame start readings (map said events) (said e) d s time is ∙ frame_seen (device_of (map said events)) d s time (group d (told_slots start (map said events))) of
    ∙ ap (λ (xs : List InputEvent). map (seen device_by) (with_frame {Y = Plain} xs d s time)) (a.groups d)) a

pub input : (start : ℕ) (events : List Event) (es : List (Slot InputEvent Plain)) (e : Event) (d n : ℕ) (x : InputEvent) → item (map said events) (said e) ≡ Some (Waiting d x) →
    Agrees start events es → Agrees start (e ∷ events) (slot_with n (Some (Waiting d x)) ∷ es)
unfolding gives
input start events es e d n x is a = one_more start events es e (Some (Waiting d x)) n is (λ readings. tells_input start readings (map said events) (said e) d x is) a

-- ---- what a device tells

-- the item of an event that says this
says : (before : List Said) (m x : Said) (o : Option Giving) → m ≡ x → item before x ≡ o → item before m ≡ o
says before m x o e is = ap (item before) e ∙ is

pub told : (start : ℕ) (events : List Event) (es : List (Slot InputEvent Plain)) (e : Event) (d n : ℕ) (t : Telling) → said e ≡ DeviceTells d n t → device_added (map said events) d ≡ true →
    device_of (map said events) d ≡ device_by d → Agrees start events es → Agrees start (e ∷ events) (slot_with n (Some (telling (device_by d) n t)) ∷ es)
told start events es e d n t is added of a = by t (says before (said e) (DeviceTells d n t) (Some (telling (device_by d) n t)) is (item_is t))
  where
    before : List Said
    before = map said events

    item_is : (u : Telling) → item before (DeviceTells d n u) ≡ Some (telling (device_by d) n u)
    item_is u = item_device_tells before d n u ∙ ap (λ (b : Bool). cond b (Some (telling (device_of before d) n u)) None) added ∙ ap (λ (v : Device). let o : Option Giving = Some (telling v n u) in o) of

    serial_is : told_serial start (said e ∷ before) ≡ n
    serial_is = ap (λ (m : Said). told_serial start (m ∷ before)) is ∙ serial_device_tells start before d n t

    same : (time : ℕ) → with_frame {Y = Plain} (group d es) d (told_serial start (said e ∷ before)) time ≡ with_frame {Y = Plain} (group d es) d n time
    same time = ap (λ (k : ℕ). with_frame {Y = Plain} (group d es) d k time) serial_is

    by : (u : Telling) → item before (said e) ≡ Some (telling (device_by d) n u) → Agrees start (e ∷ events) (slot_with n (Some (telling (device_by d) n u)) ∷ es)
    by Resumed i = other start events es e d n (DeviceResumed (device_by d) n) i of same a
    by Paused i = other start events es e d n (DevicePaused (device_by d) n) i of same a
    by (StartEmulating s) i = other start events es e d n (DeviceStartEmulating (device_by d) n s) i of same a
    by StopEmulating i = other start events es e d n (DeviceStopEmulating (device_by d) n) i of same a
    by (Frame time) i = framed start events es e d n time n i of a
