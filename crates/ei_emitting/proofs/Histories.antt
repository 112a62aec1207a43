-- What a history of steps comes to, with one more step.
use Rattle.std.proofs.Common.{◌≡◌, ℕ, ◌+◌, ◌<◌, ◌≤◌, ◌%◌, ◌^◌, Bool, true, false, cond, eqb, ◌&&◌, ◌||◌, ◌⊎◌, inl, inr, List, [], ◌∷◌, ◌++◌, Option, Some, None, refl, sym, ap, subst, ◌∙◌, arith}
use Rattle.std.specs.Prelude.{is_some, not}
use Rattle.std.proofs.lemmas.Bool.{and_parts, ne_eqb, eqb-true, eq-eqb}
use Rattle.std.proofs.lemmas.Option.{same_Some}
use Rattle.ei_spec.specs.History.{last_said, occurs, total, since}
use Rattle.ei_spec.proofs.HistoryLaws.{said_now, said_before, occurs_or}
use Rattle.ei_spec.specs.Groups.{Frame as Framing, Other, Slot, group}
use Rattle.ei_spec.proofs.GroupsLaws.{group_more}
use Rattle.ei_input.specs.declared.input_event.InputEvent.{InputEvent}
use Rattle.ei_session.specs.Setup.{seat_id}
use Rattle.ei_reported.specs.Reported.{Plain, DeviceAdded, DeviceRemoved, DevicePaused, DeviceResumed, DeviceStartEmulating, DeviceStopEmulating}
use Rattle.ei_emitting.specs.Emitted.{Step, Add, Remove, Start, Stop, Pause, Resume, Frame, Inputs, count, takes_ids, bits_of, next_device, added_here, added, removes, is_held, id_in, steps_on, serial, waiting, device_by, slot_with, slots_at, slots}
use Rattle.ei_emitting.specs.Emitted.{input_of as given_input}

-- ---- ids and serials

pub next_more : (before : List Step) (step : Step) → next_device (step ∷ before) ≡ next_device before + takes_ids step
unfolding next_device total
next_more before step = omega arith

pub serial_more : (start : ℕ) (before : List Step) (step : Step) → serial start (step ∷ before) ≡ (serial start before + steps_on before step) % 2 ^ 32
unfolding serial total
serial_more start before step = omega arith

pub past_seat : (before : List Step) → seat_id < next_device before
unfolding next_device
past_seat before = omega arith

-- ---- which device was added

pub added_now : (before : List Step) (mask number : ℕ) → eqb (count before) number ≡ true → added (Add mask ∷ before) number ≡ Some (next_device before, mask)
unfolding added
added_now before mask number e = said_now (added_here number) before (Add mask) (next_device before, mask) (ap (λ (b : Bool). let o : Option (ℕ × ℕ) = cond b (Some (next_device before, mask)) None in o) e)

pub added_before : (before : List Step) (mask number : ℕ) → eqb (count before) number ≡ false → added (Add mask ∷ before) number ≡ added before number
unfolding added
added_before before mask number e = said_before (added_here number) before (Add mask) (ap (λ (b : Bool). let o : Option (ℕ × ℕ) = cond b (Some (next_device before, mask)) None in o) e)

-- it has an id behind the seat's, and with the ids of its interfaces it lies below the next one
pub record Lies (before : List Step) (d : ℕ × ℕ) : Type 0 where
  pub behind : seat_id < d.0
  pub below : d.0 + (1 + bits_of d.1) ≤ next_device before

lies_on : (before : List Step) (step : Step) (d : ℕ × ℕ) → Lies before d → Lies (step ∷ before) d
lies_on before step d l = let more = next_more before step in let low = l.below in record { behind = l.behind; below = omega (arith, more, low) }

pub lies : (before : List Step) (number : ℕ) (d : ℕ × ℕ) → added before number ≡ Some d → Lies before d
unfolding added last_said
lies [] number d h = absurd cc
lies (Add mask ∷ before) number d h = by (eqb (count before) number) refl (lies before number d)
  where
    by : (b : Bool) → eqb (count before) number ≡ b → (added before number ≡ Some d → Lies before d) → Lies (Add mask ∷ before) d
    by true e next =
        let same : (next_device before, mask) ≡ d = same_Some (next_device before, mask) d (sym (added_now before mask number e) ∙ h) in
        let it : Lies (Add mask ∷ before) (next_device before, mask) = let more = next_more before (Add mask) in record { behind = past_seat before; below = omega (arith, more) } in
        subst (Lies (Add mask ∷ before)) same it
    by false e next = lies_on before (Add mask) d (next (sym (added_before before mask number e) ∙ h))
lies (step ∷ before) number d h = lies_on before step d (lies before number d h)

-- the id of a number that wasn't added is 0
pub id_below : (before : List Step) (number : ℕ) → id_in (added before number) < next_device before
id_below before number = by (added before number) refl
  where
    by : (o : Option (ℕ × ℕ)) → added before number ≡ o → id_in o < next_device before
    by None e = let past = past_seat before in omega (arith, past)
    by (Some d) e = let low = (lies before number d e).below in omega (arith, low)

-- two devices have their ids apart
abbrev pub Apart : ℕ × ℕ → ℕ × ℕ → Type 0
Apart a b = (a.0 + (1 + bits_of a.1) ≤ b.0) ⊎ (b.0 + (1 + bits_of b.1) ≤ a.0)

pub apart : (before : List Step) (m n : ℕ) (a b : ℕ × ℕ) → eqb m n ≡ false → added before m ≡ Some a → added before n ≡ Some b → Apart a b
unfolding added last_said
apart [] m n a b d h k = absurd cc
apart (Add mask ∷ before) m n a b d h k = by (eqb (count before) m) (eqb (count before) n) refl refl (apart before m n a b d)
  where
    new : ℕ × ℕ
    new = (next_device before, mask)

    first : Apart new b → next_device before ≡ next_device before → new ≡ a → Apart a b
    first p same e = subst (λ (x : ℕ × ℕ). Apart x b) e p

    second : Apart a new → new ≡ b → Apart a b
    second p e = subst (Apart a) e p

    by : (p q : Bool) → eqb (count before) m ≡ p → eqb (count before) n ≡ q → (added before m ≡ Some a → added before n ≡ Some b → Apart a b) → Apart a b
    by true true e f next = let one = eqb-true (count before) m e in let two = eqb-true (count before) n f in let both : true ≡ false = sym (eq-eqb m n (sym one ∙ two)) ∙ d in absurd cc
    by true false e f next =
        let low = (lies before n b (sym (added_before before mask n f) ∙ k)).below in
        let p : b.0 + (1 + bits_of b.1) ≤ next_device before = low in
        first (inr p) refl (same_Some new a (sym (added_now before mask m e) ∙ h))
    by false true e f next =
        let low = (lies before m a (sym (added_before before mask m e) ∙ h)).below in
        let p : a.0 + (1 + bits_of a.1) ≤ next_device before = low in
        second (inl p) (same_Some new b (sym (added_now before mask n f) ∙ k))
    by false false e f next = next (sym (added_before before mask m e) ∙ h) (sym (added_before before mask n f) ∙ k)
apart (step ∷ before) m n a b d h k = apart before m n a b d h k

-- ---- what is held

pub held_added : (before : List Step) (number : ℕ) → is_held before number ≡ true → (d : ℕ × ℕ) × (added before number ≡ Some d)
unfolding is_held
held_added before number h = by (added before number) refl (and_parts (is_some (added before number)) (not (occurs (λ b s. removes number s) before)) h).0
  where
    by : (o : Option (ℕ × ℕ)) → added before number ≡ o → is_some (added before number) ≡ true → (d : ℕ × ℕ) × (added before number ≡ Some d)
    by None e f = let none : false ≡ true = sym (ap is_some e) ∙ f in absurd cc
    by (Some d) e f = (d, e)

not_either : (a b : Bool) → not (a || b) ≡ true → (a ≡ false) × (not b ≡ true)
not_either true b h = absurd cc
not_either false b h = (refl, h)

pub held_removed : (before : List Step) (device number : ℕ) → is_held (Remove device ∷ before) number ≡ true → (eqb device number ≡ false) × (is_held before number ≡ true)
unfolding is_held added last_said
held_removed before device number h =
    let parts = and_parts (is_some (added before number)) (not (occurs (λ b s. removes number s) (Remove device ∷ before))) h in
    let two = not_either (eqb device number) (occurs (λ b s. removes number s) before) (sym (ap not (occurs_or (λ b s. removes number s) before (Remove device))) ∙ parts.1) in
    (two.0, both (is_some (added before number)) (not (occurs (λ b s. removes number s) before)) parts.0 two.1)
  where
    both : (a b : Bool) → a ≡ true → b ≡ true → (a && b) ≡ true
    both true true e f = refl
    both true false e f = absurd cc
    both false b e f = absurd cc

pub held_before : (before : List Step) (mask number : ℕ) → eqb (count before) number ≡ false → is_held (Add mask ∷ before) number ≡ true → is_held before number ≡ true
unfolding is_held occurs
held_before before mask number e h = sym (ap (λ (o : Option (ℕ × ℕ)). is_some o && not (occurs (λ b s. removes number s) before)) (added_before before mask number e)) ∙ h

-- ---- what waits

closed : (xs : List InputEvent) (b : Bool) → xs ≡ [] → cond b [] xs ≡ []
closed xs true e = refl
closed xs false e = e

other_waits : (es : List (Slot InputEvent Plain)) (n id d : ℕ) (y : Plain) → group d es ≡ [] → group d (slot_with n (Some (Other id y)) ∷ es) ≡ []
other_waits es n id d y e = group_more d es (slot_with n (Some (Other id y))) ∙ closed (group d es) (eqb id d) e

frame_waits : (es : List (Slot InputEvent Plain)) (n id s t d : ℕ) → group d es ≡ [] → group d (slot_with n (Some (Framing id s t)) ∷ es) ≡ []
frame_waits es n id s t d e = group_more d es (slot_with n (Some (Framing id s t))) ∙ closed (group d es) (eqb id d) e

input_waits : (es : List (Slot InputEvent Plain)) (o : Option InputEvent) (n id d : ℕ) → eqb id d ≡ false → group d es ≡ [] → group d (slot_with n (waiting id o) ∷ es) ≡ []
input_waits es None n id d e f = group_more d es (slot_with n None) ∙ f
input_waits es (Some x) n id d e f = group_more d es (slot_with n (waiting id (Some x))) ∙ ap (λ (b : Bool). cond b (group d es ++ (x ∷ [])) (group d es)) e ∙ f

-- nothing waits on a device that wasn't added yet
pub none_yet : (start : ℕ) (before : List Step) (d : ℕ) → next_device before ≤ d → group d (slots start before) ≡ []
unfolding slots slots_at group since
none_yet start [] d le = refl
none_yet start (step ∷ before) d le = by step (none_yet start before d (let more = next_more before step in omega (arith, more, le))) (let more = next_more before step in omega (arith, more, le))
  where
    es : List (Slot InputEvent Plain)
    es = slots start before

    by : (s : Step) → group d es ≡ [] → next_device before ≤ d → group d (slots start (s ∷ before)) ≡ []
    by (Add mask) e low =
        let n : ℕ = serial start (Add mask ∷ before) in
        let id : ℕ = next_device before in
        other_waits (slot_with n (Some (Other id (DeviceAdded (device_by id)))) ∷ es) n id d (DeviceResumed (device_by id) n) (other_waits es n id d (DeviceAdded (device_by id)) e)
    by (Remove k) e low = let id : ℕ = id_in (added before k) in other_waits es (serial start (Remove k ∷ before)) id d (DeviceRemoved (device_by id)) e
    by (Start k sequence) e low = let id : ℕ = id_in (added before k) in let n : ℕ = serial start (Start k sequence ∷ before) in other_waits es n id d (DeviceStartEmulating (device_by id) n sequence) e
    by (Stop k) e low = let id : ℕ = id_in (added before k) in let n : ℕ = serial start (Stop k ∷ before) in other_waits es n id d (DeviceStopEmulating (device_by id) n) e
    by (Pause k) e low = let id : ℕ = id_in (added before k) in let n : ℕ = serial start (Pause k ∷ before) in other_waits es n id d (DevicePaused (device_by id) n) e
    by (Resume k) e low = let id : ℕ = id_in (added before k) in let n : ℕ = serial start (Resume k ∷ before) in other_waits es n id d (DeviceResumed (device_by id) n) e
    by (Frame k time) e low = let id : ℕ = id_in (added before k) in let n : ℕ = serial start (Frame k time ∷ before) in frame_waits es n id n time d e
    by (Inputs k interface opcode values) e low =
        let id : ℕ = id_in (added before k) in
        let small = id_below before k in
        input_waits es (given_input interface opcode values) (serial start (Inputs k interface opcode values ∷ before)) id d (ne_eqb id d (λ same. omega (arith, small, low, same))) e
