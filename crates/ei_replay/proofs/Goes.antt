-- What the items come to, once one more came that isn't wrong.
use Rattle.std.proofs.Common.{◌≡◌, ℕ, ◌+◌, ◌<◌, ◌^◌, Bool, true, false, cond, not, ◌&&◌, eqb, List, [], ◌∷◌, ◌++◌, length, Option, Some, None, refl, sym, ap, subst, ◌∙◌, arith, ltb}
use Rattle.std.specs.Prelude.{unwrap_or, nat_eq}
use Rattle.std.specs.Option.{option_map}
use Rattle.std.specs.List.{IsDistinct}
use Rattle.std.proofs.lemmas.Bool.{eqb-true, ltb-false}
use Rattle.std.proofs.lemmas.Bool.Decides.{nat_tests}
use Rattle.ei_keyed.specs.Keyed.{keyed, with_value}
use Rattle.ei_spec.specs.Groups.{Timed, Framed, Plain as Given}
use Rattle.ei_spec.specs.History.{last_said, occurs, total}
use Rattle.ei_input.specs.declared.input_event.InputEvent.{InputEvent}
use Rattle.ei_session.specs.Setup.{Setup, seat_id}
use Rattle.ei_session.specs.Devices.{not_empty, ids_of, interfaces_of}
use Rattle.ei_session.specs.Touches.{said_by}
use Rattle.ei_session.specs.Requests.{Request, Plain, Bind, RequestDevice, Ready, DeviceClosed, DeviceStartEmulating, DeviceStopEmulating, Disconnect}
use Rattle.ei_session.proofs.Choices.{none_some, or_none, turned}
use Rattle.ei_record.specs.Replayable.{disconnects, mask_of, if_it, takes_ids, gives_mask, next_device, mask_before, closes_device, is_there, says_touch, touch_is_down, asks_badly, names_none, device_of, touches_badly, stands_badly, is_within, is_wrong}
use Rattle.ei_replay.specs.declared.played.Played.{Played}
use Rattle.ei_replay.specs.Steps.{kind_of, step_of}
use Rattle.ei_replay.specs.Made.{MadeView, touched, takes, closed}
use Rattle.ei_replay.specs.Played.{next_behind, with_made, changed_at, changed, Follows, Touched, IsMade, Stands}
use Rattle.ei_record.proofs.TouchesBefore.{down_one}
use Rattle.ei_replay.proofs.TouchedAs.{touched_as, touched_once}

-- ---- the definitions, with one more item

abbrev or_else : {A : Type 0} → Option A → Option A → Option A
or_else o p = elim o [ Some a ↦ Some a | None ↦ p ]

abbrev if_so : Bool → Bool → Bool
if_so b c = elim b [ true ↦ true | false ↦ c ]

mask_one : (before : List Request) (item : Request) (d : ℕ) → mask_before (item ∷ before) d ≡ or_else (if_it d (next_device before) (not_empty (mask_of item))) (mask_before before d)
unfolding mask_before last_said gives_mask
mask_one before item d = refl

next_one : (before : List Request) (item : Request) → next_device (item ∷ before) ≡ next_device before + ids_of (not_empty (mask_of item))
unfolding next_device total takes_ids
next_one before item = omega arith

closed_one : (before : List Request) (item : Request) (d : ℕ) → occurs (closes_device d) (item ∷ before) ≡ if_so (closes_device d before item) (occurs (closes_device d) before)
unfolding occurs
closed_one before item d = refl

over_one : (before : List Request) (item : Request) → occurs (λ b x. disconnects x) (item ∷ before) ≡ if_so (disconnects item) (occurs (λ b x. disconnects x) before)
unfolding occurs
over_one before item = refl

nothing_made : (d : ℕ) → mask_before [] d ≡ None
unfolding mask_before last_said
nothing_made d = refl

-- ---- a device that was made has an id below the next

below_case : (before : List Request) (item : Request) (d mask : ℕ) (o : Option ℕ) (b : Bool) → not_empty (mask_of item) ≡ o → eqb (next_device before) d ≡ b → (mask_before before d ≡ Some mask → d < next_device before) →
    or_else (if_it d (next_device before) o) (mask_before before d) ≡ Some mask → d < next_device (item ∷ before)
below_case before item d mask None b e q ih h = omega (arith, ih h, next_one before item)
below_case before item d mask (Some k) true e q ih h = omega (arith, eqb-true (next_device before) d q, next_one before item, ap ids_of e)
below_case before item d mask (Some k) false e q ih h = omega (arith, ih (sym (rw q refl) ∙ h), next_one before item)

pub mask_below : (before : List Request) (d mask : ℕ) → mask_before before d ≡ Some mask → d < next_device before
mask_below [] d mask h = absurd (none_some mask (sym (nothing_made d) ∙ h))
mask_below (item ∷ before) d mask h = below_case before item d mask (not_empty (mask_of item)) (eqb (next_device before) d) refl refl (mask_below before d mask) (sym (mask_one before item d) ∙ h)

no_mask : (before : List Request) (o : Option ℕ) → mask_before before (next_device before) ≡ o → mask_before before (next_device before) ≡ None
no_mask before None e = e
no_mask before (Some mask) e = let low = mask_below before (next_device before) mask e in absurd (omega (arith, low))

fresh : (before : List Request) → mask_before before (next_device before) ≡ None
fresh before = no_mask before (mask_before before (next_device before)) refl

-- ---- values by keys

keyed_push : {V : Type 0} (d id : ℕ) (v : V) (xs : List (ℕ × V)) → keyed d (xs ++ (id, v) ∷ []) ≡ or_else (keyed d xs) (cond (eqb d id) (Some v) None)
keyed_push d id v [] = refl
keyed_push d id v (x ∷ xs) = by (eqb d x.0) refl (keyed_push d id v xs)
  where
    by : (b : Bool) → eqb d x.0 ≡ b → keyed d (xs ++ (id, v) ∷ []) ≡ or_else (keyed d xs) (cond (eqb d id) (Some v) None) →
        keyed d ((x ∷ xs) ++ (id, v) ∷ []) ≡ or_else (keyed d (x ∷ xs)) (cond (eqb d id) (Some v) None)
    by true e ih = rw e refl
    by false e ih = rw e ih

keyed_same : {V : Type 0} (d : ℕ) (v w : V) (xs : List (ℕ × V)) → keyed d xs ≡ Some w → keyed d (with_value d xs v) ≡ Some v
keyed_same d v w [] h = absurd cc
keyed_same d v w (x ∷ xs) h = by (eqb d x.0) refl h (keyed_same d v w xs)
  where
    self : eqb d d ≡ true
    self = grind (arith, nat_tests)

    by : (b : Bool) → eqb d x.0 ≡ b → cond (eqb d x.0) (Some x.1) (keyed d xs) ≡ Some w → (keyed d xs ≡ Some w → keyed d (with_value d xs v) ≡ Some v) → keyed d (with_value d (x ∷ xs) v) ≡ Some v
    by true e g ih = rw (e, self) refl
    by false e g ih = rw (e, e) (ih (sym (rw e refl) ∙ g))

keyed_other : {V : Type 0} (d k : ℕ) (v : V) (xs : List (ℕ × V)) → eqb k d ≡ false → keyed d (with_value k xs v) ≡ keyed d xs
keyed_other d k v [] h = refl
keyed_other d k v (x ∷ xs) h = by (eqb k x.0) refl (keyed_other d k v xs h)
  where
    by : (b : Bool) → eqb k x.0 ≡ b → keyed d (with_value k xs v) ≡ keyed d xs → keyed d (with_value k (x ∷ xs) v) ≡ keyed d (x ∷ xs)
    by true e ih =
        let far : eqb d k ≡ false = turned d k ∙ h in
        let far_too : eqb d x.0 ≡ false = ap (eqb d) (sym (eqb-true k x.0 e)) ∙ far in
        rw (e, far, far_too) refl
    by false e ih = rw e (ap (λ o. cond (eqb d x.0) (Some x.1) o) ih)

-- ---- a device, with one more item

-- the item leaves the device as it was
record Leaves (before : List Request) (item : Request) (d : ℕ) : Type 0 where
  mask : mask_before (item ∷ before) d ≡ mask_before before d
  closing : occurs (closes_device d) (item ∷ before) ≡ occurs (closes_device d) before
  touch : (t : ℕ) → touch_is_down (item ∷ before) d t ≡ touch_is_down before d t

left_by : (before : List Request) (item : Request) (d : ℕ) → not_empty (mask_of item) ≡ None → closes_device d before item ≡ false → ((t : ℕ) → says_touch d t before item ≡ None) → Leaves before item d
left_by before item d m c t = record {
  mask = mask_one before item d ∙ ap (λ (o : Option ℕ). or_else (if_it d (next_device before) o) (mask_before before d)) m;
  closing = closed_one before item d ∙ ap (λ (b : Bool). if_so b (occurs (closes_device d) before)) c;
  touch = λ n. down_one before item d n ∙ ap (λ (o : Option Bool). unwrap_or o (touch_is_down before d n)) (t n);
}

touched_left : (before : List Request) (item : Request) (d : ℕ) (ts : List ℕ) → ((t : ℕ) → touch_is_down (item ∷ before) d t ≡ touch_is_down before d t) → Touched before d ts → Touched (item ∷ before) d ts
touched_left before item d ts same h = record { once = h.once; down = λ t. h.down t ∙ sym (same t) }

made_left : (before : List Request) (item : Request) (d : ℕ) (mask : Option ℕ) (m : Option MadeView) → Leaves before item d → IsMade before d mask m → IsMade (item ∷ before) d mask m
made_left before item d None None l h = tt
made_left before item d None (Some m) l h = absurd h
made_left before item d (Some mask) None l h = absurd h
made_left before item d (Some mask) (Some m) l h = (h.0, h.1 ∙ sym l.closing, touched_left before item d m.touches l.touch h.2)

stays : (before : List Request) (item : Request) (d : ℕ) (m : Option MadeView) → Leaves before item d → IsMade before d (mask_before before d) m → IsMade (item ∷ before) d (mask_before (item ∷ before) d) m
stays before item d m l h = subst (λ (o : Option ℕ). IsMade (item ∷ before) d o m) (sym l.mask) (made_left before item d (mask_before before d) m l h)

-- ---- the id of the next device

abbrev small : ℕ → Option ℕ
small n = cond (ltb n (2 ^ 64)) (Some n) None

next_none : (n : ℕ) → small n ≡ small (n + 0)
next_none n = ap small (let e : n ≡ n + 0 = omega arith in e)

past_all : (n k : ℕ) → ltb n (2 ^ 64) ≡ false → ltb (n + k) (2 ^ 64) ≡ false
past_all n k h = let far = ltb-false n (2 ^ 64) h in grind (arith, nat_tests, far)

next_made : (mask n : ℕ) (b z : Bool) → ltb n (2 ^ 64) ≡ b → eqb mask 0 ≡ z → next_behind mask (small n) ≡ small (n + ids_of (not_empty (Some mask)))
next_made mask n true true e q = rw (e, q) (sym (rw e refl) ∙ next_none n)
next_made mask n true false e q = rw (e, q) refl
next_made mask n false true e q = rw (e, q) (sym (rw e refl) ∙ next_none n)
next_made mask n false false e q = rw (e, q, past_all n (1 + length (interfaces_of mask)) e) refl

-- ---- the devices after a change

keyed_changed : (d e : ℕ) (change : MadeView → MadeView) (items : List (ℕ × MadeView)) (o : Option MadeView) (b : Bool) → keyed d items ≡ o → eqb d e ≡ b → keyed e (changed_at d change o items) ≡ cond b (option_map change (keyed d items)) (keyed e items)
keyed_changed d e change items None true h q = ap (λ (n : ℕ). keyed n items) (sym (eqb-true d e q)) ∙ h ∙ sym (ap (option_map change) h)
keyed_changed d e change items None false h q = refl
keyed_changed d e change items (Some m) true h q =
    ap (λ (n : ℕ). keyed n (with_value d items (change m))) (sym (eqb-true d e q)) ∙ keyed_same d (change m) m items h ∙ sym (ap (option_map change) h)
keyed_changed d e change items (Some m) false h q = keyed_other e d (change m) items q

-- an input of the device
down_here : (before : List Request) (d : ℕ) (x : InputEvent) (t u : ℕ) → says_touch d u before (Timed d x t) ≡ said_by u x
unfolding says_touch
down_here before d x t u = let here : eqb d d ≡ true = grind (arith, nat_tests) in rw here refl

not_closing : (before : List Request) (d : ℕ) (x : InputEvent) (t e : ℕ) → closes_device e before (Timed d x t) ≡ false
unfolding closes_device
not_closing before d x t e = refl

touched_here : (before : List Request) (d : ℕ) (x : InputEvent) (t : ℕ) (ts : List ℕ) → touches_badly before d x ≡ false → Touched before d ts → Touched (Timed d x t ∷ before) d (touched (kind_of x) ts)
touched_here before d x t ts fine h = record {
  once = touched_once x ts h.once (λ n a b e. h.down n ∙ (or_none _ _ (sym (ap (touches_badly before d) e) ∙ fine)).1);
  down = λ n. touched_as x ts n h.once ∙ ap (unwrap_or (said_by n x)) (h.down n) ∙ sym (down_one before (Timed d x t) d n ∙ ap (λ (o : Option Bool). unwrap_or o (touch_is_down before d n)) (down_here before d x t n));
}

made_takes : (before : List Request) (d : ℕ) (x : InputEvent) (t : ℕ) (mask : Option ℕ) (m : Option MadeView) → touches_badly before d x ≡ false → IsMade before d mask m → IsMade (Timed d x t ∷ before) d mask (option_map (takes (kind_of x)) m)
made_takes before d x t None None fine h = tt
made_takes before d x t None (Some m) fine h = absurd h
made_takes before d x t (Some mask) None fine h = absurd h
made_takes before d x t (Some mask) (Some m) fine h =
    (h.0, h.1 ∙ sym (closed_one before (Timed d x t) d ∙ ap (λ (b : Bool). if_so b (occurs (closes_device d) before)) (not_closing before d x t d)), touched_here before d x t m.touches fine h.2)

-- a device that is closed
closes_here : (before : List Request) (d : ℕ) → closes_device d before (Given (DeviceClosed d)) ≡ true
unfolding closes_device
closes_here before d = grind (arith, nat_tests)

no_touch : (before : List Request) (y : Plain) (d t : ℕ) → says_touch d t before (Given y) ≡ None
unfolding says_touch
no_touch before y d t = refl

touch_plain : (before : List Request) (y : Plain) (d t : ℕ) → touch_is_down (Given y ∷ before) d t ≡ touch_is_down before d t
touch_plain before y d t = down_one before (Given y) d t ∙ ap (λ (o : Option Bool). unwrap_or o (touch_is_down before d t)) (no_touch before y d t)

made_closed : (before : List Request) (d : ℕ) (mask : Option ℕ) (m : Option MadeView) → IsMade before d mask m → IsMade (Given (DeviceClosed d) ∷ before) d mask (option_map closed m)
made_closed before d None None h = tt
made_closed before d None (Some m) h = absurd h
made_closed before d (Some mask) None h = absurd h
made_closed before d (Some mask) (Some m) h = (
  h.0,
  sym (closed_one before (Given (DeviceClosed d)) d ∙ ap (λ (b : Bool). if_so b (occurs (closes_device d) before)) (closes_here before d)),
  touched_left before (Given (DeviceClosed d)) d m.touches (λ t. touch_plain before (DeviceClosed d) d t) h.2,
)

-- ---- what an item leaves

left_timed : (before : List Request) (d : ℕ) (x : InputEvent) (t e : ℕ) → eqb d e ≡ false → Leaves before (Timed d x t) e
unfolding says_touch
left_timed before d x t e q = left_by before (Timed d x t) e refl (not_closing before d x t e) (λ u. rw q refl)

left_framed : (before : List Request) (d n t e : ℕ) → Leaves before (Framed d n t) e
unfolding says_touch closes_device
left_framed before d n t e = left_by before (Framed d n t) e refl refl (λ u. refl)

left_closed : (before : List Request) (d e : ℕ) → eqb d e ≡ false → Leaves before (Given (DeviceClosed d)) e
unfolding closes_device
left_closed before d e q = left_by before (Given (DeviceClosed d)) e refl q (no_touch before (DeviceClosed d) e)

-- an item that makes and closes nothing
abbrev IsQuiet : Plain → Type 0
IsQuiet y = (not_empty (mask_of (Given y)) ≡ None) × ((before : List Request) (e : ℕ) → closes_device e before (Given y) ≡ false)

left_quiet : (before : List Request) (y : Plain) (e : ℕ) → IsQuiet y → Leaves before (Given y) e
left_quiet before y e h = left_by before (Given y) e h.0 (h.1 before e) (no_touch before y e)

-- ---- the whole

module _ (setup : Setup) (before : List Request) (p q : Played) (s : Stands before p) where
  quiet_left : (item : Request) (e : ℕ) → Leaves before item e → mask_before (item ∷ before) e ≡ None → (occurs (closes_device e) (item ∷ before) ≡ false) × ((t : ℕ) → touch_is_down (item ∷ before) e t ≡ false)
  quiet_left item e l h = let was = s.quiet e (sym l.mask ∙ h) in (l.closing ∙ was.0, λ t. l.touch t ∙ was.1 t)

  same_next : (item : Request) → not_empty (mask_of item) ≡ None → q.next ≡ p.next → q.next ≡ small (next_device (item ∷ before))
  same_next item e h = h ∙ s.next ∙ next_none (next_device before) ∙ ap small (sym (next_one before item ∙ ap (λ (o : Option ℕ). next_device before + ids_of o) e))

  -- a device that is named was made
  was_made : (d e : ℕ) (item : Request) → is_there before d ≡ true → eqb d e ≡ true → mask_before before e ≡ None → ⊥
  unfolding is_there
  was_made d e item there same none =
      let here : mask_before before d ≡ None = ap (mask_before before) (eqb-true d e same) ∙ none in
      not_true (sym (rw here refl) ∙ there)
    where
      not_true : false ≡ true → ⊥
      not_true e = absurd cc

  -- an input
  devices_input : (d : ℕ) (x : InputEvent) (t e : ℕ) (b : Bool) → eqb d e ≡ b → touches_badly before d x ≡ false → e < 2 ^ 64 → q.devices.items ≡ changed d (takes (kind_of x)) p.devices.items →
      IsMade (Timed d x t ∷ before) e (mask_before (Timed d x t ∷ before) e) (keyed e q.devices.items)
  devices_input d x t e b same fine low h =
      let now : keyed e q.devices.items ≡ cond b (option_map (takes (kind_of x)) (keyed d p.devices.items)) (keyed e p.devices.items) =
      ap (keyed e) h ∙ keyed_changed d e (takes (kind_of x)) p.devices.items (keyed d p.devices.items) b refl same in
      subst (IsMade (Timed d x t ∷ before) e (mask_before (Timed d x t ∷ before) e)) (sym now) (by b same)
    where
      kept : mask_before (Timed d x t ∷ before) e ≡ mask_before before e
      kept = mask_one before (Timed d x t) e

      by : (c : Bool) → eqb d e ≡ c → IsMade (Timed d x t ∷ before) e (mask_before (Timed d x t ∷ before) e) (cond c (option_map (takes (kind_of x)) (keyed d p.devices.items)) (keyed e p.devices.items))
      by false k = stays before (Timed d x t) e (keyed e p.devices.items) (left_timed before d x t e k) (s.devices e low)
      by true k =
          let here : e ≡ d = sym (eqb-true d e k) in
          let low_too : d < 2 ^ 64 = subst (λ (n : ℕ). n < 2 ^ 64) here low in
          let made = made_takes before d x t (mask_before before d) (keyed d p.devices.items) fine (s.devices d low_too) in
          subst (λ (o : Option ℕ). IsMade (Timed d x t ∷ before) e o (option_map (takes (kind_of x)) (keyed d p.devices.items))) (sym kept)
          (subst (λ (n : ℕ). IsMade (Timed d x t ∷ before) n (mask_before before n) (option_map (takes (kind_of x)) (keyed d p.devices.items))) (sym here) made)

  goes_input : (d : ℕ) (x : InputEvent) (t : ℕ) → is_there before d ≡ true → touches_badly before d x ≡ false → Follows p (step_of (Timed d x t)) q → Stands (Timed d x t ∷ before) q
  goes_input d x t there fine f = record {
    over = f.over ∙ s.over ∙ sym (over_one before (Timed d x t));
    next = same_next (Timed d x t) refl f.next;
    devices = λ e low. devices_input d x t e (eqb d e) refl fine low f.devices;
    last = f.last;
    quiet = λ e none. by e (eqb d e) refl none;
  }
    where
      by : (e : ℕ) (b : Bool) → eqb d e ≡ b → mask_before (Timed d x t ∷ before) e ≡ None → (occurs (closes_device e) (Timed d x t ∷ before) ≡ false) × ((u : ℕ) → touch_is_down (Timed d x t ∷ before) e u ≡ false)
      by e true k none = absurd (was_made d e (Timed d x t) there k (sym (mask_one before (Timed d x t) e) ∙ none))
      by e false k none = quiet_left (Timed d x t) e (left_timed before d x t e k) none

  -- a frame
  goes_frame : (d n t : ℕ) → Follows p (step_of (Framed d n t)) q → Stands (Framed d n t ∷ before) q
  goes_frame d n t f = record {
    over = f.over ∙ s.over ∙ sym (over_one before (Framed d n t));
    next = same_next (Framed d n t) refl f.next;
    devices = λ e low. subst (IsMade (Framed d n t ∷ before) e (mask_before (Framed d n t ∷ before) e)) (sym (ap (keyed e) f.devices))
        (stays before (Framed d n t) e (keyed e p.devices.items) (left_framed before d n t e) (s.devices e low));
    last = f.last;
    quiet = λ e none. quiet_left (Framed d n t) e (left_framed before d n t e) none;
  }

  -- an item that makes and closes nothing
  goes_quiet : (y : Plain) → IsQuiet y → q.over ≡ if_so (disconnects (Given y)) p.over → q.next ≡ p.next → q.devices.items ≡ p.devices.items → q.last ≡ None → Stands (Given y ∷ before) q
  goes_quiet y h over next devices last = record {
    over = over ∙ ap (if_so (disconnects (Given y))) s.over ∙ sym (over_one before (Given y));
    next = same_next (Given y) h.0 next;
    devices = λ e low. subst (IsMade (Given y ∷ before) e (mask_before (Given y ∷ before) e)) (sym (ap (keyed e) devices))
        (stays before (Given y) e (keyed e p.devices.items) (left_quiet before y e h) (s.devices e low));
    last = last;
    quiet = λ e none. quiet_left (Given y) e (left_quiet before y e h) none;
  }

  -- a device is closed
  devices_closed : (d e : ℕ) (b : Bool) → eqb d e ≡ b → e < 2 ^ 64 → q.devices.items ≡ changed d closed p.devices.items →
      IsMade (Given (DeviceClosed d) ∷ before) e (mask_before (Given (DeviceClosed d) ∷ before) e) (keyed e q.devices.items)
  devices_closed d e b same low h =
      let now : keyed e q.devices.items ≡ cond b (option_map closed (keyed d p.devices.items)) (keyed e p.devices.items) =
      ap (keyed e) h ∙ keyed_changed d e closed p.devices.items (keyed d p.devices.items) b refl same in
      subst (IsMade (Given (DeviceClosed d) ∷ before) e (mask_before (Given (DeviceClosed d) ∷ before) e)) (sym now) (by b same)
    where
      kept : mask_before (Given (DeviceClosed d) ∷ before) e ≡ mask_before before e
      kept = mask_one before (Given (DeviceClosed d)) e

      by : (c : Bool) → eqb d e ≡ c → IsMade (Given (DeviceClosed d) ∷ before) e (mask_before (Given (DeviceClosed d) ∷ before) e) (cond c (option_map closed (keyed d p.devices.items)) (keyed e p.devices.items))
      by false k = stays before (Given (DeviceClosed d)) e (keyed e p.devices.items) (left_closed before d e k) (s.devices e low)
      by true k =
          let here : e ≡ d = sym (eqb-true d e k) in
          let low_too : d < 2 ^ 64 = subst (λ (n : ℕ). n < 2 ^ 64) here low in
          let made = made_closed before d (mask_before before d) (keyed d p.devices.items) (s.devices d low_too) in
          subst (λ (o : Option ℕ). IsMade (Given (DeviceClosed d) ∷ before) e o (option_map closed (keyed d p.devices.items))) (sym kept)
          (subst (λ (n : ℕ). IsMade (Given (DeviceClosed d) ∷ before) n (mask_before before n) (option_map closed (keyed d p.devices.items))) (sym here) made)

  goes_closed : (d : ℕ) → is_there before d ≡ true → Follows p (step_of (Given (DeviceClosed d))) q → Stands (Given (DeviceClosed d) ∷ before) q
  goes_closed d there f = record {
    over = f.over ∙ s.over ∙ sym (over_one before (Given (DeviceClosed d)));
    next = same_next (Given (DeviceClosed d)) refl f.next;
    devices = λ e low. devices_closed d e (eqb d e) refl low f.devices;
    last = f.last;
    quiet = λ e none. by e (eqb d e) refl none;
  }
    where
      by : (e : ℕ) (b : Bool) → eqb d e ≡ b → mask_before (Given (DeviceClosed d) ∷ before) e ≡ None → (occurs (closes_device e) (Given (DeviceClosed d) ∷ before) ≡ false) × ((u : ℕ) → touch_is_down (Given (DeviceClosed d) ∷ before) e u ≡ false)
      by e true k none = absurd (was_made d e (Given (DeviceClosed d)) there k (sym (mask_one before (Given (DeviceClosed d)) e) ∙ none))
      by e false k none = quiet_left (Given (DeviceClosed d)) e (left_closed before d e k) none

-- ---- a device is made

no_longer : (o p : Option ℕ) → or_else o p ≡ None → p ≡ None
no_longer (Some a) p h = absurd cc
no_longer None p h = h

none_keyed : (before : List Request) (d : ℕ) (m : Option MadeView) → IsMade before d None m → m ≡ None
none_keyed before d None h = refl
none_keyed before d (Some m) h = absurd h

no_touches : IsDistinct nat_eq []
unfolding IsDistinct
no_touches = tt

abbrev made_new : ℕ → MadeView
made_new mask = record { mask = mask; closed = false; touches = [] }

-- the item asks the seat for a device of this mask
record MakesOne (before : List Request) (y : Plain) (mask : ℕ) : Type 0 where
  asks : mask_of (Given y) ≡ Some mask
  closes : (e : ℕ) → closes_device e before (Given y) ≡ false
  goes_on : disconnects (Given y) ≡ false

module _ (before : List Request) (p q : Played) (s : Stands before p) (y : Plain) (mask : ℕ) (a : MakesOne before y mask) where
  abbrev n : ℕ
  n = next_device before

  closing_same : (e : ℕ) → occurs (closes_device e) (Given y ∷ before) ≡ occurs (closes_device e) before
  closing_same e = closed_one before (Given y) e ∙ ap (λ (b : Bool). if_so b (occurs (closes_device e) before)) (a.closes e)

  mask_now : (e : ℕ) → mask_before (Given y ∷ before) e ≡ or_else (if_it e n (not_empty (Some mask))) (mask_before before e)
  mask_now e = mask_one before (Given y) e ∙ ap (λ (o : Option ℕ). or_else (if_it e n (not_empty o)) (mask_before before e)) a.asks

  leaves : (e : ℕ) → mask_before (Given y ∷ before) e ≡ mask_before before e → Leaves before (Given y) e
  leaves e m = record { mask = m; closing = closing_same e; touch = λ t. touch_plain before y e t }

  old : (e : ℕ) → e < 2 ^ 64 → mask_before (Given y ∷ before) e ≡ mask_before before e → (o : Option MadeView) → o ≡ keyed e p.devices.items → IsMade (Given y ∷ before) e (mask_before (Given y ∷ before) e) o
  old e low m o same = subst (IsMade (Given y ∷ before) e (mask_before (Given y ∷ before) e)) (sym same) (stays before (Given y) e (keyed e p.devices.items) (leaves e m) (s.devices e low))

  -- the device itself
  new : IsMade (Given y ∷ before) n (Some mask) (Some (made_new mask))
  new =
      let was = s.quiet n (fresh before) in
      (refl, sym (closing_same n ∙ was.0), record { once = no_touches; down = λ t. sym (touch_plain before y n t ∙ was.1 t) })

  new_at : (e : ℕ) → e ≡ n → eqb mask 0 ≡ false → e < 2 ^ 64 → IsMade (Given y ∷ before) e (mask_before (Given y ∷ before) e) (or_else (keyed e p.devices.items) (Some (made_new mask)))
  new_at e here full low =
      let low_too : n < 2 ^ 64 = subst (λ (k : ℕ). k < 2 ^ 64) here low in
      let none : keyed n p.devices.items ≡ None = none_keyed before n (keyed n p.devices.items) (subst (λ (o : Option ℕ). IsMade before n o (keyed n p.devices.items)) (fresh before) (s.devices n low_too)) in
      let self : eqb n n ≡ true = grind (arith, nat_tests) in
      let m : mask_before (Given y ∷ before) n ≡ Some mask = mask_now n ∙ rw (full, self) refl in
      subst (λ (k : ℕ). IsMade (Given y ∷ before) k (mask_before (Given y ∷ before) k) (or_else (keyed k p.devices.items) (Some (made_new mask)))) (sym here)
      (subst (λ (o : Option ℕ). IsMade (Given y ∷ before) n o (or_else (keyed n p.devices.items) (Some (made_new mask)))) (sym m)
      (subst (λ (o : Option MadeView). IsMade (Given y ∷ before) n (Some mask) (or_else o (Some (made_new mask)))) (sym none) new))

  or_none_is : (o : Option MadeView) → or_else o None ≡ o
  or_none_is None = refl
  or_none_is (Some m) = refl

  devices_by : (e : ℕ) (b z c : Bool) → ltb n (2 ^ 64) ≡ b → eqb mask 0 ≡ z → eqb e n ≡ c → e < 2 ^ 64 → IsMade (Given y ∷ before) e (mask_before (Given y ∷ before) e) (keyed e (with_made mask (small n) p.devices.items))
  devices_by e true true c l z k low = old e low (mask_now e ∙ rw z refl) _ (rw (l, z) refl)
  devices_by e false true c l z k low = old e low (mask_now e ∙ rw z refl) _ (rw l refl)
  devices_by e false false c l z k low =
      let high = ltb-false n (2 ^ 64) l in
      let far : eqb n e ≡ false = grind (arith, nat_tests, high, low) in
      old e low (mask_now e ∙ rw (z, far) refl) _ (rw l refl)
  devices_by e true false true l z k low =
      let now : keyed e (with_made mask (small n) p.devices.items) ≡ or_else (keyed e p.devices.items) (Some (made_new mask)) = rw (l, z) (keyed_push e n (made_new mask) p.devices.items ∙ rw k refl) in
      subst (IsMade (Given y ∷ before) e (mask_before (Given y ∷ before) e)) (sym now) (new_at e (eqb-true e n k) z low)
  devices_by e true false false l z k low =
      let far : eqb n e ≡ false = turned n e ∙ k in
      old e low (mask_now e ∙ rw (z, far) refl) _ (rw (l, z) (keyed_push e n (made_new mask) p.devices.items ∙ rw k (or_none_is (keyed e p.devices.items))))

  goes_made : q.over ≡ p.over → q.next ≡ next_behind mask p.next → q.devices.items ≡ with_made mask p.next p.devices.items → q.last ≡ None → Stands (Given y ∷ before) q
  goes_made over next devices last = record {
    over = over ∙ s.over ∙ sym (over_one before (Given y) ∙ ap (λ (b : Bool). if_so b (occurs (λ b x. disconnects x) before)) a.goes_on);
    next = next ∙ ap (next_behind mask) s.next ∙ next_made mask n (ltb n (2 ^ 64)) (eqb mask 0) refl refl ∙ ap small (sym (next_one before (Given y) ∙ ap (λ (o : Option ℕ). n + ids_of (not_empty o)) a.asks));
    devices = λ e low. subst (IsMade (Given y ∷ before) e (mask_before (Given y ∷ before) e)) (sym (ap (keyed e) (devices ∙ ap (λ (o : Option ℕ). with_made mask o p.devices.items) s.next)))
        (devices_by e (ltb n (2 ^ 64)) (eqb mask 0) (eqb e n) refl refl refl low);
    last = last;
    quiet = λ e none. (closing_same e ∙ (s.quiet e (no_longer _ _ (sym (mask_now e) ∙ none))).0, λ t. touch_plain before y e t ∙ (s.quiet e (no_longer _ _ (sym (mask_now e) ∙ none))).1 t);
  }

-- ---- any item

at_seat : (setup : Setup) (seat mask : ℕ) → not (eqb seat seat_id && is_within mask setup.capabilities) ≡ false → eqb seat seat_id ≡ true
at_seat setup seat mask h = by (eqb seat seat_id) refl h
  where
    by : (b : Bool) → eqb seat seat_id ≡ b → not (eqb seat seat_id && is_within mask setup.capabilities) ≡ false → eqb seat seat_id ≡ true
    by true e g = e
    by false e g = let no : true ≡ false = sym (rw e refl) ∙ g in absurd cc

bind_makes : (before : List Request) (seat mask : ℕ) → eqb seat seat_id ≡ true → MakesOne before (Bind seat mask) mask
unfolding closes_device
bind_makes before seat mask e = record { asks = rw e refl; closes = λ d. refl; goes_on = refl }

request_makes : (before : List Request) (seat mask : ℕ) → eqb seat seat_id ≡ true → MakesOne before (RequestDevice seat mask) mask
unfolding closes_device
request_makes before seat mask e = record { asks = rw e refl; closes = λ d. refl; goes_on = refl }

ready_quiet : (d : ℕ) → IsQuiet (Ready d)
unfolding closes_device
ready_quiet d = (refl, λ b e. refl)

start_quiet : (d x y : ℕ) → IsQuiet (DeviceStartEmulating d x y)
unfolding closes_device
start_quiet d x y = (refl, λ b e. refl)

stop_quiet : (d x : ℕ) → IsQuiet (DeviceStopEmulating d x)
unfolding closes_device
stop_quiet d x = (refl, λ b e. refl)

end_quiet : IsQuiet Disconnect
unfolding closes_device
end_quiet = (refl, λ b e. refl)

not_false : (b : Bool) → not b ≡ false → b ≡ true
not_false true h = refl
not_false false h = absurd cc

-- what is right of an item that isn't wrong
record IsRight (setup : Setup) (before : List Request) (item : Request) (next : Option Request) : Type 0 where
  asks : asks_badly setup item ≡ false
  names : names_none before (device_of item) ≡ false
  stands : stands_badly before item next ≡ false

right_by : (setup : Setup) (before : List Request) (item : Request) (next : Option Request) → is_wrong setup before item next ≡ false → IsRight setup before item next
unfolding is_wrong
right_by setup before item next h =
    let a = or_none _ _ h in
    let b = or_none _ _ a.1 in
    let c = or_none _ _ b.1 in
    record { asks = b.0; names = c.0; stands = c.1 }

module _ (setup : Setup) (before : List Request) (p q : Played) (s : Stands before p) where
  by_item : (item : Request) (next : Option Request) → IsRight setup before item next → Follows p (step_of item) q → Stands (item ∷ before) q
  by_item (Timed d x t) next r f =
      let a = or_none _ _ r.stands in
      let b = or_none _ _ a.1 in
      let c = or_none _ _ b.1 in
      goes_input setup before p q s d x t (not_false _ r.names) c.0 f
  by_item (Framed d n t) next r f = goes_frame setup before p q s d n t f
  by_item (Given Disconnect) next r f = goes_quiet setup before p q s Disconnect end_quiet f.over f.next f.devices f.last
  by_item (Given (Bind seat mask)) next r f = goes_made before p q s (Bind seat mask) mask (bind_makes before seat mask (at_seat setup seat mask r.asks)) f.over f.next f.devices f.last
  by_item (Given (RequestDevice seat mask)) next r f = goes_made before p q s (RequestDevice seat mask) mask (request_makes before seat mask (at_seat setup seat mask r.asks)) f.over f.next f.devices f.last
  by_item (Given (DeviceClosed d)) next r f = goes_closed setup before p q s d (not_false _ r.names) f
  by_item (Given (Ready d)) next r f = goes_quiet setup before p q s (Ready d) (ready_quiet d) f.over f.next f.devices f.last
  by_item (Given (DeviceStartEmulating d x y)) next r f = goes_quiet setup before p q s (DeviceStartEmulating d x y) (start_quiet d x y) f.over f.next f.devices f.last
  by_item (Given (DeviceStopEmulating d x)) next r f = goes_quiet setup before p q s (DeviceStopEmulating d x) (stop_quiet d x) f.over f.next f.devices f.last

  -- they come to what the definitions say, with the item
  pub goes : (item : Request) (next : Option Request) → is_wrong setup before item next ≡ false → Follows p (step_of item) q → Stands (item ∷ before) q
  goes item next h f = by_item item next (right_by setup before item next h) f

-- no item
pub none_stand : (p : Played) → p.over ≡ false → p.next ≡ Some (seat_id + 1) → p.devices.items ≡ [] → p.last ≡ None → Stands [] p
unfolding occurs next_device total mask_before last_said touch_is_down
none_stand p over next devices last = record {
  over = over;
  next = next;
  devices = λ d low. subst (IsMade [] d None) (sym (ap (keyed d) devices)) tt;
  last = last;
  quiet = λ d none. (refl, λ t. refl);
}
