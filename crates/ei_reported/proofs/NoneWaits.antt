-- Which inputs wait.
use Rattle.std.proofs.Common.{◌≡◌, ℕ, Bool, true, false, not, ◌&&◌, ◌||◌, cond, eqb, List, [], ◌∷◌, ◌++◌, Option, Some, None, refl, sym, ap, ◌∙◌}
use Rattle.std.proofs.lemmas.Bool.{eqb-true}
use Rattle.ei_spec.specs.History.{since, each}
use Rattle.ei_spec.specs.Groups.{Input as Waiting, Other, Free, group}
use Rattle.ei_spec.proofs.GroupsLaws.{waits, group_more}
use Rattle.ei_types.specs.declared.error.EventError.{EventError}
use Rattle.ei_input.specs.declared.input_event.InputEvent.{InputEvent}
use Rattle.ei_reported.specs.Said.{Told, Resumed, Paused, StartEmulating, StopEmulating, Frame}
use Rattle.ei_reported.specs.Said.{Said, SeatGoes, DeviceDone, DeviceTells, DeviceGoes, Inputs, Modifies}
use Rattle.ei_reported.specs.Standing.{seat_added, device_done, device_goes, device_pending, device_typed, device_added, holder}
use Rattle.ei_reported.specs.Reported.{device_of, Plain, SeatRemoved, DeviceRemoved, Giving, refusal, telling, waiting, modifying, giving, item, slot}
use Rattle.ei_reported.specs.Reported.{slots}
use Rattle.ei_reported.proofs.AfterEachKind.{device_added_after}
use Rattle.ei_reported.proofs.HeldByDevices.{holder_added}
use Rattle.ei_reported.proofs.ReportedLaws.{slots_more, group_by}
use Rattle.ei_reported.proofs.ItemsAndSerials.{item_device_done, item_device_tells, item_device_goes, item_input, item_modifiers}

-- ---- no input waits on a device that isn't added

both_none : {X : Type 0} (b : Bool) → ◌≡◌ {A = List X} (cond b [] []) []
both_none true = refl
both_none false = refl

abbrev waits_none : ℕ → Option Giving → Type 0
waits_none d it = waits d [] it ≡ []

no_input : (before : List Said) (d : ℕ) (x : InputEvent) (e : ℕ) → device_added before d ≡ false → device_added before e ≡ true → (b : Bool) → eqb e d ≡ b → waits_none d (Some (Waiting e x))
no_input before d x e h k true q = absurd (absurd_both (device_added before d) (sym (ap (device_added before) (eqb-true e d q)) ∙ k) h)
  where
    absurd_both : (b : Bool) → b ≡ true → b ≡ false → ⊥
    absurd_both true p q = absurd cc
    absurd_both false p q = absurd cc
no_input before d x e h k false q = rw q refl

given_waits : (before : List Said) (m : Said) (d : ℕ) → device_added before d ≡ false → waits_none d (giving before m)
given_waits before (SeatGoes s n) d h = by (seat_added before s)
  where
    by : (b : Bool) → waits_none d (cond b (Some (Free (SeatRemoved s))) None)
    by true = refl
    by false = refl
given_waits before (DeviceDone e) d h = both_none (eqb e d)
given_waits before (DeviceTells e n Resumed) d h = both_none (eqb e d)
given_waits before (DeviceTells e n Paused) d h = both_none (eqb e d)
given_waits before (DeviceTells e n (StartEmulating q)) d h = both_none (eqb e d)
given_waits before (DeviceTells e n StopEmulating) d h = both_none (eqb e d)
given_waits before (DeviceTells e n (Frame t)) d h = both_none (eqb e d)
given_waits before (DeviceGoes e n) d h = by (device_added before e)
  where
    by : (b : Bool) → waits_none d (cond b (Some (Other e (DeviceRemoved (device_of before e)))) None)
    by true = both_none (eqb e d)
    by false = refl
given_waits before (Inputs i x) d h = by (holder before i) refl
  where
    by : (o : Option ℕ) → holder before i ≡ o → waits_none d (waiting x o)
    by None e = refl
    by (Some y) e = no_input before d _ y h (holder_added before i y e) (eqb y d) refl
given_waits before (Modifies i s p l q g) d h = by (holder before i)
  where
    by : (o : Option ℕ) → waits_none d (modifying before s p l q g o)
    by None = refl
    by (Some y) = both_none (eqb y d)
given_waits before m d h = refl

item_waits : (before : List Said) (m : Said) (d : ℕ) → device_added before d ≡ false → waits_none d (item before m)
unfolding item
item_waits before m d h = by (refusal before m) refl
  where
    by : (r : Option EventError) → refusal before m ≡ r → waits_none d (item before m)
    by (Some e) q = rw (q, item) refl
    by None q = rw (q, item) (given_waits before m d h)

-- an added device that isn't there any more has gone now
gone_now : (d p g a : Bool) → ((d && p) || (not g && a)) ≡ false → a ≡ true → g ≡ true
gone_now true true g a h k = absurd cc
gone_now true false true a h k = refl
gone_now true false false a h k = absurd (by a h k)
  where
    by : (a : Bool) → a ≡ false → a ≡ true → ⊥
    by true h k = absurd cc
    by false h k = absurd cc
gone_now false p true a h k = refl
gone_now false p false a h k = absurd (by a h k)
  where
    by : (a : Bool) → a ≡ false → a ≡ true → ⊥
    by true h k = absurd cc
    by false h k = absurd cc

goes_closes : (before : List Said) (m : Said) (d : ℕ) (xs : List InputEvent) → device_added before d ≡ true → device_goes d m ≡ true → waits d xs (item before m) ≡ []
unfolding item
goes_closes before (DeviceGoes e n) d xs k g =
    let there : device_added before e ≡ true = ap (device_added before) (eqb-true e d g) ∙ k in
    rw (there, g) refl
goes_closes before m d xs k g = absurd cc

pub none_waits : (start : ℕ) (before : List Said) (d : ℕ) → device_added before d ≡ false → group d (slots start before) ≡ []
unfolding group slot since each
none_waits start [] d h = refl
none_waits start (m ∷ before) d h =
    ap (group d) (slots_more start before m) ∙ group_more d (slots start before) (slot start before m) ∙ by (none_waits start before d) (device_added before d) refl
  where
    by : (device_added before d ≡ false → group d (slots start before) ≡ []) → (a : Bool) → device_added before d ≡ a → waits d (group d (slots start before)) (item before m) ≡ []
    by next false e = rw (next e) (item_waits before m d e)
    by next true e = goes_closes before m d (group d (slots start before)) e (gone_now (device_done d m) (device_pending before d && device_typed before d) (device_goes d m) (device_added before d) (sym (device_added_after before m d) ∙ h) e)

-- ---- what waits after an event of each kind

pub waits_nothing : (start : ℕ) (before : List Said) (m : Said) (device : ℕ) → item before m ≡ None → group device (slots start (m ∷ before)) ≡ group device (slots start before)
waits_nothing start before m device e = group_by start before m device None e

pub waits_free : (start : ℕ) (before : List Said) (m : Said) (y : Plain) (device : ℕ) → item before m ≡ Some (Free y) → group device (slots start (m ∷ before)) ≡ group device (slots start before)
waits_free start before m y device e = group_by start before m device (Some (Free y)) e

pub waits_input : (start : ℕ) (before : List Said) (id d device : ℕ) (x : InputEvent) → holder before id ≡ Some d →
    group device (slots start (Inputs id x ∷ before)) ≡ cond (eqb d device) (group device (slots start before) ++ (x ∷ [])) (group device (slots start before))
waits_input start before id d device x h = group_by start before (Inputs id x) device (Some (Waiting d x)) (item_input before id x ∙ ap (waiting x) h)

pub waits_modifiers : (start : ℕ) (before : List Said) (id d device serial depressed locked latched layout : ℕ) → holder before id ≡ Some d →
    group device (slots start (Modifies id serial depressed locked latched layout ∷ before)) ≡ cond (eqb d device) [] (group device (slots start before))
waits_modifiers start before id d device s p l q g h = group_by start before (Modifies id s p l q g) device (modifying before s p l q g (Some d)) (item_modifiers before id s p l q g ∙ ap (modifying before s p l q g) h)

told_closes : (before : List Said) (d serial device : ℕ) (xs : List InputEvent) (told : Told) → waits device xs (Some (telling (device_of before d) serial told)) ≡ cond (eqb d device) [] xs
told_closes before d serial device xs Resumed = refl
told_closes before d serial device xs Paused = refl
told_closes before d serial device xs (StartEmulating n) = refl
told_closes before d serial device xs StopEmulating = refl
told_closes before d serial device xs (Frame t) = refl

pub waits_told : (start : ℕ) (before : List Said) (d device serial : ℕ) (told : Told) → device_added before d ≡ true →
    group device (slots start (DeviceTells d serial told ∷ before)) ≡ cond (eqb d device) [] (group device (slots start before))
waits_told start before d device serial told h =
    group_by start before (DeviceTells d serial told) device (Some (telling (device_of before d) serial told)) (item_device_tells before d serial told ∙ rw h refl)
    ∙ told_closes before d serial device (group device (slots start before)) told

pub waits_done : (start : ℕ) (before : List Said) (d device : ℕ) → device_pending before d ≡ true → device_typed before d ≡ true →
    group device (slots start (DeviceDone d ∷ before)) ≡ cond (eqb d device) [] (group device (slots start before))
waits_done start before d device p t = group_by start before (DeviceDone d) device (giving before (DeviceDone d)) (item_device_done before d ∙ rw (p, t) refl)

-- a device that wasn't added had no inputs waiting
none_if : (start : ℕ) (before : List Said) (d device : ℕ) (b : Bool) → eqb d device ≡ b → device_added before d ≡ false → group device (slots start before) ≡ cond b [] (group device (slots start before))
none_if start before d device true e h = none_waits start before device (sym (ap (device_added before) (eqb-true d device e)) ∙ h)
none_if start before d device false e h = refl

pub waits_goes : (start : ℕ) (before : List Said) (d device serial : ℕ) → group device (slots start (DeviceGoes d serial ∷ before)) ≡ cond (eqb d device) [] (group device (slots start before))
waits_goes start before d device serial = by (device_added before d) refl
  where
    by : (a : Bool) → device_added before d ≡ a → group device (slots start (DeviceGoes d serial ∷ before)) ≡ cond (eqb d device) [] (group device (slots start before))
    by true h = group_by start before (DeviceGoes d serial) device (Some (Other d (DeviceRemoved (device_of before d)))) (item_device_goes before d serial ∙ rw h refl)
    by false h = group_by start before (DeviceGoes d serial) device None (item_device_goes before d serial ∙ rw h refl) ∙ none_if start before d device (eqb d device) refl h
