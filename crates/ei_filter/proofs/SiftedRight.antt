-- What passes of a record that can be played back can be played back.
use Rattle.std.proofs.Common.{◌≡◌, ℕ, ◌+◌, ◌≤◌, Bool, true, false, cond, not, ◌&&◌, ◌||◌, eqb, List, [], ◌∷◌, length, Option, Some, None, refl, sym, ap, subst, ◌∙◌, arith}
use Rattle.std.specs.Prelude.{unwrap_or, nat_eq, nat_le, slice_get, slice_index}
use Rattle.std.specs.List.{filter, list_any, IsDistinct}
use Rattle.std.proofs.lemmas.Bool.{eqb-true}
use Rattle.std.proofs.lemmas.Bool.Decides.{nat_tests}
use Rattle.std.proofs.lemmas.Cmp.{nat_eq_equiv}
use Rattle.std.proofs.lemmas.Map.Made.{is_member-filter}
use Rattle.ei_spec.specs.Groups.{Timed, Framed, Plain as Given}
use Rattle.ei_spec.specs.History.{last_said, occurs, total}
use Rattle.ei_input.specs.declared.input_event.InputEvent.{InputEvent}
use Rattle.ei_input.specs.declared.input_event.InputEvent.TheVariants as input_event
use Rattle.ei_wire.specs.declared.arg.RawFloat.{RawFloat}
use Rattle.ei_session.specs.Setup.{Setup}
use Rattle.ei_session.specs.Devices.{not_empty, ids_of}
use Rattle.ei_session.specs.Touches.{said_by}
use Rattle.ei_session.specs.Requests.{Request, Plain, DeviceClosed}
use Rattle.ei_session.proofs.Choices.{or_none, or_true, and_true, and_false, not_both}
use Rattle.ei_record.specs.Replayable.{disconnects, mask_of, if_it, takes_ids, gives_mask, next_device, mask_before, closes_device, is_there, says_touch, touch_is_down, touches_before, asks_badly, names_none, device_of, lacks, goes_with, is_input_of, touches_badly, stands_badly, is_wrong, wrong_from, IsReplayable}
use Rattle.ei_record.proofs.Lists.{right, was_right}
use Rattle.ei_record.proofs.TouchesBefore.{down_one, down_members, down_distinct, down_count, distinct_filter}
use Rattle.ei_filter.specs.Sifted.{Test, is_let, is_framed, begins, passes_with, begun_of, input_passes, some_passes, passes, timed_by, kept, counted, sifted_from, sifted}

abbrev or_else : {A : Type 0} → Option A → Option A → Option A
or_else o p = elim o [ Some a ↦ Some a | None ↦ p ]

abbrev if_so : Bool → Bool → Bool
if_so b c = elim b [ true ↦ true | false ↦ c ]

abbrev over : List Request → Bool
over before = occurs (λ b x. disconnects x) before

-- ---- one more item, by the definitions

mask_one : (before : List Request) (item : Request) (d : ℕ) → mask_before (item ∷ before) d ≡ or_else (if_it d (next_device before) (not_empty (mask_of item))) (mask_before before d)
unfolding mask_before last_said gives_mask
mask_one before item d = refl

next_one : (before : List Request) (item : Request) → next_device (item ∷ before) ≡ next_device before + ids_of (not_empty (mask_of item))
unfolding next_device total takes_ids
next_one before item = omega arith

closed_one : (before : List Request) (item : Request) (d : ℕ) → occurs (closes_device d) (item ∷ before) ≡ if_so (closes_device d before item) (occurs (closes_device d) before)
unfolding occurs
closed_one before item d = refl

over_one : (before : List Request) (item : Request) → over (item ∷ before) ≡ if_so (disconnects item) (over before)
unfolding occurs
over_one before item = refl

same_closing : (a b : List Request) (item : Request) (d : ℕ) → closes_device d a item ≡ closes_device d b item
unfolding closes_device
same_closing a b (Timed e x t) d = refl
same_closing a b (Framed e s t) d = refl
same_closing a b (Given (DeviceClosed e)) d = refl
same_closing a b (Given y) d = refl

begun_one : (tests : List Test) (d t : ℕ) (item : Request) (before later : List Request) → begun_of tests d t (item ∷ before) later ≡ cond (begins d t item) (is_let tests item && is_framed d later) (begun_of tests d t before (item ∷ later))
unfolding begun_of
begun_one tests d t item before later = refl

-- ---- devices, ids and ends are the same

-- of what lies before, and of what passed of it
record Same (before out : List Request) : Type 0 where
  ends : over out ≡ over before
  next : next_device out ≡ next_device before
  mask : (d : ℕ) → mask_before out d ≡ mask_before before d
  closing : (d : ℕ) → occurs (closes_device d) out ≡ occurs (closes_device d) before

-- what is no input and no frame: it passes
same_plain : (before out : List Request) (y : Plain) → Same before out → Same (Given y ∷ before) (Given y ∷ out)
same_plain before out y s = record {
  ends = over_one out (Given y) ∙ ap (if_so (disconnects (Given y))) s.ends ∙ sym (over_one before (Given y));
  next = next_one out (Given y) ∙ ap (λ (n : ℕ). n + ids_of (not_empty (mask_of (Given y)))) s.next ∙ sym (next_one before (Given y));
  mask = λ d. mask_one out (Given y) d ∙ ap (λ (n : ℕ). or_else (if_it d n (not_empty (mask_of (Given y)))) (mask_before out d)) s.next
      ∙ ap (or_else (if_it d (next_device before) (not_empty (mask_of (Given y))))) (s.mask d) ∙ sym (mask_one before (Given y) d);
  closing = λ d. closed_one out (Given y) d ∙ ap (λ (b : Bool). if_so b (occurs (closes_device d) out)) (same_closing out before (Given y) d)
      ∙ ap (if_so (closes_device d before (Given y))) (s.closing d) ∙ sym (closed_one before (Given y) d);
}

-- an input or a frame
abbrev IsOfGroup : Request → Type 0
IsOfGroup (Timed d x t) = Unit {0}
IsOfGroup (Framed d s t) = Unit {0}
IsOfGroup (Given y) = ⊥

more : (before : List Request) (item : Request) → IsOfGroup item → Same (item ∷ before) before
unfolding closes_device occurs
more before (Timed d x t) g = record { ends = refl; next = sym (next_one before (Timed d x t) ∙ nothing (next_device before)); mask = λ e. sym (mask_one before (Timed d x t) e); closing = λ e. refl }
  where
    nothing : (n : ℕ) → n + 0 ≡ n
    nothing n = omega arith
more before (Framed d s t) g = record { ends = refl; next = sym (next_one before (Framed d s t) ∙ nothing (next_device before)); mask = λ e. sym (mask_one before (Framed d s t) e); closing = λ e. refl }
  where
    nothing : (n : ℕ) → n + 0 ≡ n
    nothing n = omega arith
more before (Given y) g = absurd g

joined : (a b c : List Request) → Same a b → Same b c → Same a c
joined a b c p q = record { ends = q.ends ∙ p.ends; next = q.next ∙ p.next; mask = λ d. q.mask d ∙ p.mask d; closing = λ d. q.closing d ∙ p.closing d }

turned_round : (a b : List Request) → Same a b → Same b a
turned_round a b p = record { ends = sym p.ends; next = sym p.next; mask = λ d. sym (p.mask d); closing = λ d. sym (p.closing d) }

same_drop : (before out : List Request) (item : Request) → IsOfGroup item → Same before out → Same (item ∷ before) out
same_drop before out item g s = joined (item ∷ before) before out (more before item g) s

same_pass : (before out : List Request) (item new : Request) → IsOfGroup item → IsOfGroup new → Same before out → Same (item ∷ before) (new ∷ out)
same_pass before out item new g h s = joined (item ∷ before) out (new ∷ out) (same_drop before out item g s) (turned_round (new ∷ out) out (more out new h))

there_same : (before out : List Request) (d : ℕ) → Same before out → is_there out d ≡ is_there before d
unfolding is_there
there_same before out d s = rw (s.mask d, s.closing d) refl

names_same : (before out : List Request) (o : Option ℕ) → Same before out → names_none out o ≡ names_none before o
names_same before out None s = refl
names_same before out (Some d) s = ap not (there_same before out d s)

-- ---- touches

abbrev down_both : List Test → List Request → List Request → List Request → Type 0
down_both tests before later out = (d t : ℕ) → touch_is_down out d t ≡ (touch_is_down before d t && begun_of tests d t before later)

implied : (a b : Bool) → (a && b) ≡ true → a ≡ true
implied true b h = refl
implied false b h = absurd cc

shorter : (p : ℕ → Bool) (xs : List ℕ) → length (filter p xs) ≤ length xs
shorter p [] = omega arith
shorter p (x ∷ xs) = by (p x) (shorter p xs)
  where
    by : (b : Bool) → length (filter p xs) ≤ length xs → length (cond b (x ∷ filter p xs) (filter p xs)) ≤ length (x ∷ xs)
    by true h = omega (arith, h)
    by false h = omega (arith, h)

and_turned : (a b : Bool) → (a ≡ true → b ≡ true) → (b && a) ≡ a
and_turned true b h = rw (h refl) refl
and_turned false true h = refl
and_turned false false h = refl

-- what passed has no more touches down
fewer : (before out : List Request) (d : ℕ) → ((t : ℕ) → touch_is_down out d t ≡ true → touch_is_down before d t ≡ true) → length (touches_before out d) ≤ length (touches_before before d)
fewer before out d h =
    let ts = filter (touch_is_down out d) (touches_before before d) in
    let once : IsDistinct nat_eq ts = distinct_filter (touch_is_down out d) (touches_before before d) (down_distinct before d) in
    let same : (t : ℕ) → list_any (nat_eq t) ts ≡ touch_is_down out d t =
    λ t. is_member-filter nat_eq_equiv (touch_is_down out d) t (λ x e. ap (touch_is_down out d) (eqb-true t x e)) (touches_before before d)
    ∙ ap (λ (b : Bool). b && touch_is_down out d t) (down_members before d t)
    ∙ and_turned (touch_is_down out d t) (touch_is_down before d t) (h t) in
    omega (arith, down_count out d ts once same, shorter (touch_is_down out d) (touches_before before d))

few_enough : (m n : ℕ) → m ≤ n → nat_le 16 n ≡ false → nat_le 16 m ≡ false
few_enough m n h e = grind (arith, nat_tests)

-- ---- the item behind a passed input

module _ (tests : List Test) (times : List ℕ) where
  some_one : (d e : ℕ) (x : InputEvent) (t : ℕ) (before later : List Request) → some_passes tests d (Timed e x t ∷ before) later ≡ (eqb e d && (input_passes tests before d x t later || some_passes tests d before (Timed e x t ∷ later)))
  unfolding some_passes
  some_one d e x t before later = refl

  passes_input : (before : List Request) (d : ℕ) (x : InputEvent) (t : ℕ) (later : List Request) → passes tests before (Timed d x t) later ≡ input_passes tests before d x t later
  unfolding passes
  passes_input before d x t later = refl

  passes_frame : (before : List Request) (d s t : ℕ) (later : List Request) → passes tests before (Framed d s t) later ≡ some_passes tests d before (Framed d s t ∷ later)
  unfolding passes
  passes_frame before d s t later = refl

  passes_plain : (before : List Request) (y : Plain) (later : List Request) → passes tests before (Given y) later ≡ true
  unfolding passes
  passes_plain before y later = refl

  sifted_one : (k : ℕ) (before : List Request) (item : Request) (later : List Request) (b : Bool) → passes tests before item later ≡ b →
      sifted_from tests times k before (item ∷ later) ≡ kept b (timed_by times k item) (sifted_from tests times (counted b k item) (item ∷ before) later)
  unfolding sifted_from
  sifted_one k before item later b e = rw e refl

  framed_input : (d e : ℕ) (x : InputEvent) (t : ℕ) (later : List Request) → is_framed d (Timed e x t ∷ later) ≡ (eqb e d && is_framed d later)
  unfolding is_framed
  framed_input d e x t later = refl

  framed_frame : (d e s t : ℕ) (later : List Request) → is_framed d (Framed e s t ∷ later) ≡ eqb e d
  unfolding is_framed
  framed_frame d e s t later = refl

  no_frame : (d : ℕ) → is_framed d [] ≡ true → ⊥
  unfolding is_framed
  no_frame d h = absurd cc

  no_frame_plain : (d : ℕ) (y : Plain) (later : List Request) → is_framed d (Given y ∷ later) ≡ true → ⊥
  unfolding is_framed
  no_frame_plain d y later h = absurd cc

  both : (a b : Bool) → (a && b) ≡ true → (a ≡ true) × (b ≡ true)
  both true true h = (refl, refl)
  both true false h = absurd cc
  both false b h = absurd cc

  same_self : (n : ℕ) → eqb n n ≡ true
  same_self n = grind (arith, nat_tests)

  -- the next item that passes behind a passed input is of its group, or its frame
  goes_on : (d : ℕ) (later before : List Request) (k : ℕ) → is_framed d later ≡ true → some_passes tests d before later ≡ true → goes_with d (slice_index times k) (slice_get (sifted_from tests times k before later) 0) ≡ true
  goes_on d [] before k f h = absurd (no_frame d f)
  goes_on d (Given y ∷ later) before k f h = absurd (no_frame_plain d y later f)
  goes_on d (Framed e s t ∷ later) before k f h =
      let here : eqb e d ≡ true = sym (framed_frame d e s t later) ∙ f in
      let same : e ≡ d = eqb-true e d here in
      let p : passes tests before (Framed e s t) later ≡ true = passes_frame before e s t later ∙ ap (λ (n : ℕ). some_passes tests n before (Framed e s t ∷ later)) same ∙ h in
      ap (λ (l : List Request). goes_with d (slice_index times k) (slice_get l 0)) (sifted_one k before (Framed e s t) later true p) ∙ rw (here, same_self (slice_index times k)) refl
  goes_on d (Timed e x t ∷ later) before k f h =
      let parts = both _ _ (sym (framed_input d e x t later) ∙ f) in
      by (passes tests before (Timed e x t) later) refl (eqb-true e d parts.0) parts.0 (goes_on d later (Timed e x t ∷ before) k parts.1)
    where
      by : (b : Bool) → passes tests before (Timed e x t) later ≡ b → e ≡ d → eqb e d ≡ true → (some_passes tests d (Timed e x t ∷ before) later ≡ true → goes_with d (slice_index times k) (slice_get (sifted_from tests times k (Timed e x t ∷ before) later) 0) ≡ true) →
          goes_with d (slice_index times k) (slice_get (sifted_from tests times k before (Timed e x t ∷ later)) 0) ≡ true
      by true p same here next = ap (λ (l : List Request). goes_with d (slice_index times k) (slice_get l 0)) (sifted_one k before (Timed e x t) later true p) ∙ rw (here, same_self (slice_index times k)) refl
      by false p same here next =
          ap (λ (l : List Request). goes_with d (slice_index times k) (slice_get l 0)) (sifted_one k before (Timed e x t) later false p)
          ∙ next (some_one d e x t before later ∙ rw (here, h) (or_true (input_passes tests before d x t later)))

-- ---- what passed of the items so far

record Kept (tests : List Test) (before later out : List Request) : Type 0 where
  same : Same before out
  down : down_both tests before later out
  group : (d : ℕ) → some_passes tests d before later ≡ true → is_input_of d (slice_get out 0) ≡ true

says_at : (before : List Request) (d e u t : ℕ) (x : InputEvent) (q : Bool) → eqb d e ≡ q → says_touch e u before (Timed d x t) ≡ cond q (said_by u x) None
unfolding says_touch
says_at before d e u t x q h = rw h refl

down_input : (before : List Request) (d e u t : ℕ) (x : InputEvent) (q : Bool) → eqb d e ≡ q → touch_is_down (Timed d x t ∷ before) e u ≡ unwrap_or (cond q (said_by u x) None) (touch_is_down before e u)
down_input before d e u t x q h = down_one before (Timed d x t) e u ∙ ap (λ (o : Option Bool). unwrap_or o (touch_is_down before e u)) (says_at before d e u t x q h)

down_framed : (before : List Request) (d s t e u : ℕ) → touch_is_down (Framed d s t ∷ before) e u ≡ touch_is_down before e u
unfolding says_touch
down_framed before d s t e u = down_one before (Framed d s t) e u

down_plain : (before : List Request) (y : Plain) (e u : ℕ) → touch_is_down (Given y ∷ before) e u ≡ touch_is_down before e u
unfolding says_touch
down_plain before y e u = down_one before (Given y) e u

begun_framed : (tests : List Test) (d s t e u : ℕ) (before later : List Request) → begun_of tests e u (Framed d s t ∷ before) later ≡ begun_of tests e u before (Framed d s t ∷ later)
begun_framed tests d s t e u before later = begun_one tests e u (Framed d s t) before later

begun_plain : (tests : List Test) (y : Plain) (e u : ℕ) (before later : List Request) → begun_of tests e u (Given y ∷ before) later ≡ begun_of tests e u before (Given y ∷ later)
begun_plain tests y e u before later = begun_one tests e u (Given y) before later

none_framed : (tests : List Test) (d s t e : ℕ) (before later : List Request) → some_passes tests e (Framed d s t ∷ before) later ≡ true → ⊥
unfolding some_passes
none_framed tests d s t e before later h = absurd cc

none_plain : (tests : List Test) (y : Plain) (e : ℕ) (before later : List Request) → some_passes tests e (Given y ∷ before) later ≡ true → ⊥
unfolding some_passes
none_plain tests y e before later h = absurd cc

kept_framed : (tests : List Test) (before later out new : List Request) (d s t : ℕ) → Kept tests before (Framed d s t ∷ later) out → Same (Framed d s t ∷ before) new → ((e u : ℕ) → touch_is_down new e u ≡ touch_is_down out e u) → Kept tests (Framed d s t ∷ before) later new
kept_framed tests before later out new d s t k same down = record {
  same = same;
  down = λ e u. down e u ∙ k.down e u ∙ sym (ap (λ (b : Bool). b && begun_of tests e u (Framed d s t ∷ before) later) (down_framed before d s t e u) ∙ ap (λ (b : Bool). touch_is_down before e u && b) (begun_framed tests d s t e u before later));
  group = λ e h. absurd (none_framed tests d s t e before later h);
}

kept_plain : (tests : List Test) (before later out : List Request) (y : Plain) → Kept tests before (Given y ∷ later) out → Kept tests (Given y ∷ before) later (Given y ∷ out)
kept_plain tests before later out y k = record {
  same = same_plain before out y k.same;
  down = λ e u. down_plain out y e u ∙ k.down e u ∙ sym (ap (λ (b : Bool). b && begun_of tests e u (Given y ∷ before) later) (down_plain before y e u) ∙ ap (λ (b : Bool). touch_is_down before e u && b) (begun_plain tests y e u before later));
  group = λ e h. absurd (none_plain tests y e before later h);
}

-- ---- an input

module _ (tests : List Test) (before later out : List Request) (d t : ℕ) (framed_so : is_framed d later ≡ true) where
  passes_as : (x : InputEvent) → passes tests before (Timed d x t) later ≡ passes_with tests (λ touch. begun_of tests d touch before (Timed d x t ∷ later)) (Timed d x t)
  unfolding passes input_passes
  passes_as x = rw framed_so refl

  -- the touches of another device, and those of which the input says nothing, are as they were
  quiet : (x : InputEvent) (new : List Request) (e u : ℕ) (k : down_both tests before (Timed d x t ∷ later) out) → touch_is_down new e u ≡ touch_is_down out e u → touch_is_down (Timed d x t ∷ before) e u ≡ touch_is_down before e u → begins e u (Timed d x t) ≡ false →
      touch_is_down new e u ≡ (touch_is_down (Timed d x t ∷ before) e u && begun_of tests e u (Timed d x t ∷ before) later)
  quiet x new e u k same was begins_not =
      same ∙ k e u ∙ sym (ap (λ (b : Bool). b && begun_of tests e u (Timed d x t ∷ before) later) was
      ∙ ap (λ (b : Bool). touch_is_down before e u && b) (begun_one tests e u (Timed d x t) before later ∙ rw begins_not refl))

  abbrev none_said : Option Bool
  none_said = None

  self : (n : ℕ) → eqb n n ≡ true
  self n = grind (arith, nat_tests)

  -- where the input puts the touch down, or ends it
  said_here : (before' : List Request) (x : InputEvent) (time v : ℕ) (o : Option Bool) → said_by v x ≡ o → touch_is_down (Timed d x time ∷ before') d v ≡ unwrap_or o (touch_is_down before' d v)
  said_here before' x time v o h = down_input before' d d v time x true (self d) ∙ ap (λ (p : Option Bool). unwrap_or p (touch_is_down before' d v)) h

  abbrev After : InputEvent → Bool → ℕ → List Request
  After x b time = cond b (Timed d x time ∷ out) out

  abbrev So : InputEvent → Bool → ℕ → ℕ → ℕ → Type 0
  So x b time e u = touch_is_down (After x b time) e u ≡ (touch_is_down (Timed d x t ∷ before) e u && begun_of tests e u (Timed d x t ∷ before) later)

  let_here : (v : ℕ) (a c : RawFloat) (b : Bool) → passes tests before (Timed d (input_event.TouchDown v a c) t) later ≡ b → begun_of tests d v (Timed d (input_event.TouchDown v a c) t ∷ before) later ≡ b
  let_here v a c b p =
      begun_one tests d v (Timed d (input_event.TouchDown v a c) t) before later
      ∙ rw (self d, self v, framed_so) (and_so (is_let tests (Timed d (input_event.TouchDown v a c) t)) ∙ sym (passes_as (input_event.TouchDown v a c)) ∙ p)
    where
      and_so : (l : Bool) → (l && true) ≡ l
      and_so true = refl
      and_so false = refl

  down_put : (v : ℕ) (a c : RawFloat) (b : Bool) (time : ℕ) → passes tests before (Timed d (input_event.TouchDown v a c) t) later ≡ b → touch_is_down before d v ≡ false → down_both tests before (Timed d (input_event.TouchDown v a c) t ∷ later) out → So (input_event.TouchDown v a c) b time d v
  down_put v a c true time p up k =
      let now : touch_is_down (Timed d (input_event.TouchDown v a c) time ∷ out) d v ≡ true = said_here out (input_event.TouchDown v a c) time v (Some true) (rw (self v) refl) in
      let was : touch_is_down (Timed d (input_event.TouchDown v a c) t ∷ before) d v ≡ true = said_here before (input_event.TouchDown v a c) t v (Some true) (rw (self v) refl) in
      now ∙ sym (and_true _ _ was (let_here v a c true p))
  down_put v a c false time p up k =
      let none : (touch_is_down before d v && begun_of tests d v before (Timed d (input_event.TouchDown v a c) t ∷ later)) ≡ false = rw up refl in
      let not_let = let_here v a c false p in
      k d v ∙ none ∙ sym (ap (λ (z : Bool). touch_is_down (Timed d (input_event.TouchDown v a c) t ∷ before) d v && z) not_let ∙ and_false _)

  -- it ends: it is down nowhere, whether that passed or not
  ended : (x : InputEvent) (v : ℕ) (b : Bool) (time : ℕ) → said_by v x ≡ Some false → passes tests before (Timed d x t) later ≡ b → begun_of tests d v before (Timed d x t ∷ later) ≡ b → down_both tests before (Timed d x t ∷ later) out → So x b time d v
  ended x v true time said p g k = said_here out x time v (Some false) said ∙ sym (ap (λ (z : Bool). z && begun_of tests d v (Timed d x t ∷ before) later) (said_here before x t v (Some false) said))
  ended x v false time said p g k =
      k d v ∙ ap (λ (z : Bool). touch_is_down before d v && z) g ∙ and_false (touch_is_down before d v)
      ∙ sym (ap (λ (z : Bool). z && begun_of tests d v (Timed d x t ∷ before) later) (said_here before x t v (Some false) said))

  -- it says nothing of the touch
  says_none : (x : InputEvent) (b : Bool) (time e u : ℕ) (q : Bool) → eqb d e ≡ q → cond q (said_by u x) None ≡ None → begins e u (Timed d x t) ≡ false → down_both tests before (Timed d x t ∷ later) out → So x b time e u
  says_none x b time e u q h n g k = quiet x (After x b time) e u k (after b) (down_input before d e u t x q h ∙ ap (λ (o : Option Bool). unwrap_or o (touch_is_down before e u)) n) g
    where
      after : (c : Bool) → touch_is_down (After x c time) e u ≡ touch_is_down out e u
      after true = down_input out d e u time x q h ∙ ap (λ (o : Option Bool). unwrap_or o (touch_is_down out e u)) n
      after false = refl

  none_both : (q : Bool) → cond q (none_said) none_said ≡ none_said
  none_both true = refl
  none_both false = refl

  moved : (P : ℕ → ℕ → Type 0) (e u v : ℕ) → eqb d e ≡ true → eqb v u ≡ true → P d v → P e u
  moved P e u v h g p = subst (λ (n : ℕ). P n u) (eqb-true d e h) (subst (P d) (eqb-true v u g) p)

  not_begun : (v u e : ℕ) (a c : RawFloat) (q r : Bool) → eqb d e ≡ q → eqb v u ≡ r → (q && r) ≡ false → begins e u (Timed d (input_event.TouchDown v a c) t) ≡ false
  not_begun v u e a c q r h g n = rw (h, g) n

  by_touch : (x : InputEvent) (b : Bool) (time : ℕ) → passes tests before (Timed d x t) later ≡ b → touches_badly before d x ≡ false → down_both tests before (Timed d x t ∷ later) out → (e u : ℕ) (q : Bool) → eqb d e ≡ q → So x b time e u
  by_touch (input_event.TouchDown v a c) b time p fine k e u false h = says_none (input_event.TouchDown v a c) b time e u false h refl (rw h refl) k
  by_touch (input_event.TouchDown v a c) b time p fine k e u true h = by (eqb v u) refl
    where
      by : (r : Bool) → eqb v u ≡ r → So (input_event.TouchDown v a c) b time e u
      by true g = moved (So (input_event.TouchDown v a c) b time) e u v h g (down_put v a c b time p (or_none _ _ fine).1 k)
      by false g = says_none (input_event.TouchDown v a c) b time e u true h (rw g refl) (rw (h, g) refl) k
  by_touch (input_event.TouchUp v) b time p fine k e u false h = says_none (input_event.TouchUp v) b time e u false h refl refl k
  by_touch (input_event.TouchUp v) b time p fine k e u true h = by (eqb v u) refl
    where
      by : (r : Bool) → eqb v u ≡ r → So (input_event.TouchUp v) b time e u
      by true g = moved (So (input_event.TouchUp v) b time) e u v h g (ended (input_event.TouchUp v) v b time (rw (self v) refl) p (sym (passes_as (input_event.TouchUp v)) ∙ p) k)
      by false g = says_none (input_event.TouchUp v) b time e u true h (rw g refl) refl k
  by_touch (input_event.TouchCancel v) b time p fine k e u false h = says_none (input_event.TouchCancel v) b time e u false h refl refl k
  by_touch (input_event.TouchCancel v) b time p fine k e u true h = by (eqb v u) refl
    where
      by : (r : Bool) → eqb v u ≡ r → So (input_event.TouchCancel v) b time e u
      by true g = moved (So (input_event.TouchCancel v) b time) e u v h g (ended (input_event.TouchCancel v) v b time (rw (self v) refl) p (sym (passes_as (input_event.TouchCancel v)) ∙ p) k)
      by false g = says_none (input_event.TouchCancel v) b time e u true h (rw g refl) refl k
  by_touch x b time p fine k e u q h = says_none x b time e u q h (none_both q) refl k

  -- the last that passed is an input of the group
  group_so : (x : InputEvent) (b : Bool) (time : ℕ) → passes tests before (Timed d x t) later ≡ b → ((e : ℕ) → some_passes tests e before (Timed d x t ∷ later) ≡ true → is_input_of e (slice_get out 0) ≡ true) → (e : ℕ) → some_passes tests e (Timed d x t ∷ before) later ≡ true → is_input_of e (slice_get (After x b time) 0) ≡ true
  group_so x true time p k e h = implied (eqb d e) _ (sym (some_one tests [] e d x t before later) ∙ h)
  group_so x false time p k e h =
      let parts = both tests [] (eqb d e) _ (sym (some_one tests [] e d x t before later) ∙ h) in
      let same : d ≡ e = eqb-true d e parts.0 in
      let not_it : input_passes tests before e x t later ≡ false = ap (λ (n : ℕ). input_passes tests before n x t later) (sym same) ∙ sym (passes_input tests [] before d x t later) ∙ p in
      let other : (input_passes tests before e x t later || some_passes tests e before (Timed d x t ∷ later)) ≡ some_passes tests e before (Timed d x t ∷ later) = rw not_it refl in
      k e (sym other ∙ parts.1)

  kept_input : (x : InputEvent) (b : Bool) (time : ℕ) → passes tests before (Timed d x t) later ≡ b → touches_badly before d x ≡ false → Kept tests before (Timed d x t ∷ later) out → Kept tests (Timed d x t ∷ before) later (After x b time)
  kept_input x b time p fine k = record {
    same = same_so b;
    down = λ e u. by_touch x b time p fine k.down e u (eqb d e) refl;
    group = group_so x b time p k.group;
  }
    where
      same_so : (c : Bool) → Same (Timed d x t ∷ before) (After x c time)
      same_so true = same_pass before out (Timed d x t) (Timed d x time) tt tt k.same
      same_so false = same_drop before out (Timed d x t) tt k.same

  not_and : (z : Bool) → not z ≡ false → not (z && true) ≡ false
  not_and true h = refl
  not_and false h = h

  -- an input that passes can come behind what passed before it
  badly_so : (x : InputEvent) → passes tests before (Timed d x t) later ≡ true → touches_badly before d x ≡ false → down_both tests before (Timed d x t ∷ later) out → touches_badly out d x ≡ false
  badly_so (input_event.TouchDown v a c) p fine k =
      let parts = or_none _ _ fine in
      let few : nat_le 16 (length (touches_before out d)) ≡ false = few_enough _ _ (fewer before out d (λ u h. implied _ _ (sym (k d u) ∙ h))) parts.0 in
      let up : touch_is_down out d v ≡ false = k d v ∙ rw parts.1 refl in
      rw (few, up) refl
  badly_so (input_event.TouchMotion v a c) p fine k = rw (k d v, implied (begun_of tests d v before (Timed d (input_event.TouchMotion v a c) t ∷ later)) (is_let tests (Timed d (input_event.TouchMotion v a c) t)) (sym (passes_as (input_event.TouchMotion v a c)) ∙ p)) (not_and (touch_is_down before d v) fine)
  badly_so (input_event.TouchUp v) p fine k = rw (k d v, sym (passes_as (input_event.TouchUp v)) ∙ p) (not_and (touch_is_down before d v) fine)
  badly_so (input_event.TouchCancel v) p fine k = rw (k d v, sym (passes_as (input_event.TouchCancel v)) ∙ p) (not_and (touch_is_down before d v) fine)
  badly_so x p fine k = refl

-- ---- the whole

record Fine (setup : Setup) (before : List Request) (item : Request) (next : Option Request) : Type 0 where
  ends : over before ≡ false
  asks : asks_badly setup item ≡ false
  names : names_none before (device_of item) ≡ false
  stands : stands_badly before item next ≡ false

fine_by : (setup : Setup) (before : List Request) (item : Request) (next : Option Request) → is_wrong setup before item next ≡ false → Fine setup before item next
unfolding is_wrong
fine_by setup before item next h =
    let a = or_none _ _ h in
    let b = or_none _ _ a.1 in
    let c = or_none _ _ b.1 in
    record { ends = a.0; asks = b.0; names = c.0; stands = c.1 }

wrong_not : (setup : Setup) (before : List Request) (item : Request) (next : Option Request) → Fine setup before item next → is_wrong setup before item next ≡ false
unfolding is_wrong
wrong_not setup before item next f = rw (f.ends, f.asks, f.names) f.stands

not_false : (z : Bool) → not z ≡ false → z ≡ true
not_false true h = refl
not_false false h = absurd cc

-- of what can be played back, the group of each input has its frame
goes_so : (setup : Setup) (d t : ℕ) (x : InputEvent) (before later : List Request) → wrong_from setup before (Timed d x t ∷ later) ≡ None → goes_with d t (slice_get later 0) ≡ true
goes_so setup d t x before later h =
    let f = fine_by setup before (Timed d x t) (slice_get later 0) (was_right setup before (Timed d x t) later h).0 in
    let a = or_none _ _ f.stands in
    let b = or_none _ _ a.1 in
    not_false _ b.0

framed_more : (d e : ℕ) (y : InputEvent) (u : ℕ) (later : List Request) → eqb e d ≡ true → is_framed e later ≡ true → is_framed d (Timed e y u ∷ later) ≡ true
unfolding is_framed
framed_more d e y u later here h = rw here (ap (λ (n : ℕ). is_framed n later) (sym (eqb-true e d here)) ∙ h)

framed_now : (d e s u : ℕ) (later : List Request) → eqb e d ≡ true → is_framed d (Framed e s u ∷ later) ≡ true
unfolding is_framed
framed_now d e s u later here = here

framed_right : (setup : Setup) (d t : ℕ) (x : InputEvent) (before later : List Request) → wrong_from setup before (Timed d x t ∷ later) ≡ None → is_framed d later ≡ true
framed_right setup d t x before [] h = absurd (not_both _ (goes_so setup d t x before [] h) refl)
framed_right setup d t x before (Given y ∷ later) h = absurd (not_both _ (goes_so setup d t x before (Given y ∷ later) h) refl)
framed_right setup d t x before (Framed e s u ∷ later) h = framed_now d e s u later (implied (eqb e d) (eqb u t) (goes_so setup d t x before (Framed e s u ∷ later) h))
framed_right setup d t x before (Timed e y u ∷ later) h =
    framed_more d e y u later (implied (eqb e d) (eqb u t) (goes_so setup d t x before (Timed e y u ∷ later) h))
    (framed_right setup e u y (Timed d x t ∷ before) later (was_right setup before (Timed d x t) (Timed e y u ∷ later) h).1)

nothing_wrong : (setup : Setup) (before : List Request) → wrong_from setup before [] ≡ None
unfolding wrong_from
nothing_wrong setup before = refl

module _ (setup : Setup) (tests : List Test) (times : List ℕ) where
  -- the item that passes can come behind what passed before it
  passed_fine : (before later out rest : List Request) (item : Request) (k : ℕ) → Fine setup before item (slice_get later 0) → Kept tests before (item ∷ later) out → passes tests before item later ≡ true →
      stands_badly out (timed_by times k item) (slice_get rest 0) ≡ false → Fine setup out (timed_by times k item) (slice_get rest 0)
  passed_fine before later out rest (Timed d x t) k f c p s = record { ends = c.same.ends ∙ f.ends; asks = refl; names = names_same before out (Some d) c.same ∙ f.names; stands = s }
  passed_fine before later out rest (Framed d n t) k f c p s = record { ends = c.same.ends ∙ f.ends; asks = refl; names = names_same before out (Some d) c.same ∙ f.names; stands = s }
  passed_fine before later out rest (Given y) k f c p s = record { ends = c.same.ends ∙ f.ends; asks = f.asks; names = names_same before out (device_of (Given y)) c.same ∙ f.names; stands = s }

  stands_input : (before later out : List Request) (d t : ℕ) (x : InputEvent) (k : ℕ) → wrong_from setup before (Timed d x t ∷ later) ≡ None → Fine setup before (Timed d x t) (slice_get later 0) → Kept tests before (Timed d x t ∷ later) out → passes tests before (Timed d x t) later ≡ true →
      stands_badly out (Timed d x (slice_index times k)) (slice_get (sifted_from tests times k (Timed d x t ∷ before) later) 0) ≡ false
  stands_input before later out d t x k h f c p =
      let framed_so = framed_right setup d t x before later h in
      let a = or_none _ _ f.stands in
      let b = or_none _ _ a.1 in
      let e = or_none _ _ b.1 in
      let mask : lacks (mask_before out d) x ≡ false = ap (λ (o : Option ℕ). lacks o x) (c.same.mask d) ∙ a.0 in
      let self : eqb d d ≡ true = same_self tests times d in
      let some : some_passes tests d (Timed d x t ∷ before) later ≡ true = some_one tests times d d x t before later ∙ rw (self, sym (passes_input tests times before d x t later) ∙ p) refl in
      let goes = goes_on tests times d later (Timed d x t ∷ before) k framed_so some in
      let touch = badly_so tests before later out d t framed_so x p e.0 c.down in
      rw (mask, goes, touch) e.1

  from : (later before out : List Request) (k : ℕ) → wrong_from setup before later ≡ None → Kept tests before later out → wrong_from setup out (sifted_from tests times k before later) ≡ None
  unfolding sifted_from
  from [] before out k h c = nothing_wrong setup out
  from (Given y ∷ later) before out k h c =
      let w = was_right setup before (Given y) later h in
      let f = fine_by setup before (Given y) (slice_get later 0) w.0 in
      let rest = sifted_from tests times k (Given y ∷ before) later in
      let p = passes_plain tests times before y later in
      ap (wrong_from setup out) (sifted_one tests times k before (Given y) later true p)
      ∙ right setup out (Given y) rest (wrong_not setup out (Given y) (slice_get rest 0) (passed_fine before later out rest (Given y) k f c p refl))
      (from later (Given y ∷ before) (Given y ∷ out) k w.1 (kept_plain tests before later out y c))
  from (Framed d n t ∷ later) before out k h c =
      let w = was_right setup before (Framed d n t) later h in
      by (passes tests before (Framed d n t) later) refl
      (λ new j m. from later (Framed d n t ∷ before) new j w.1 m)
      (fine_by setup before (Framed d n t) (slice_get later 0) w.0)
    where
      by : (b : Bool) → passes tests before (Framed d n t) later ≡ b → ((new : List Request) (j : ℕ) → Kept tests (Framed d n t ∷ before) later new → wrong_from setup new (sifted_from tests times j (Framed d n t ∷ before) later) ≡ None) → Fine setup before (Framed d n t) (slice_get later 0) →
          wrong_from setup out (sifted_from tests times k before (Framed d n t ∷ later)) ≡ None
      by false p ih f =
          ap (wrong_from setup out) (sifted_one tests times k before (Framed d n t) later false p)
          ∙ ih out k (kept_framed tests before later out out d n t c (same_drop before out (Framed d n t) tt c.same) (λ e u. refl))
      by true p ih f =
          let new = Framed d n (slice_index times k) in
          let rest = sifted_from tests times (k + 1) (Framed d n t ∷ before) later in
          let group : is_input_of d (slice_get out 0) ≡ true = c.group d (sym (passes_frame tests times before d n t later) ∙ p) in
          ap (wrong_from setup out) (sifted_one tests times k before (Framed d n t) later true p)
          ∙ right setup out new rest (wrong_not setup out new (slice_get rest 0) (passed_fine before later out rest (Framed d n t) k f c p (ap not group)))
          (ih (new ∷ out) (k + 1) (kept_framed tests before later out (new ∷ out) d n t c (same_pass before out (Framed d n t) new tt tt c.same) (λ e u. down_framed out d n (slice_index times k) e u)))
  from (Timed d x t ∷ later) before out k h c =
      let w = was_right setup before (Timed d x t) later h in
      by (passes tests before (Timed d x t) later) refl
      (λ new m. from later (Timed d x t ∷ before) new k w.1 m)
      (fine_by setup before (Timed d x t) (slice_get later 0) w.0)
    where
      by : (b : Bool) → passes tests before (Timed d x t) later ≡ b → ((new : List Request) → Kept tests (Timed d x t ∷ before) later new → wrong_from setup new (sifted_from tests times k (Timed d x t ∷ before) later) ≡ None) → Fine setup before (Timed d x t) (slice_get later 0) →
          wrong_from setup out (sifted_from tests times k before (Timed d x t ∷ later)) ≡ None
      by false p ih f =
          ap (wrong_from setup out) (sifted_one tests times k before (Timed d x t) later false p)
          ∙ ih out (kept_input tests before later out d t (framed_right setup d t x before later h) x false (slice_index times k) p (or_none _ _ (or_none _ _ (or_none _ _ f.stands).1).1).0 c)
      by true p ih f =
          let new = Timed d x (slice_index times k) in
          let rest = sifted_from tests times k (Timed d x t ∷ before) later in
          ap (wrong_from setup out) (sifted_one tests times k before (Timed d x t) later true p)
          ∙ right setup out new rest
          (wrong_not setup out new (slice_get rest 0) (passed_fine before later out rest (Timed d x t) k f c p (stands_input before later out d t x k h f c p)))
          (ih (new ∷ out) (kept_input tests before later out d t (framed_right setup d t x before later h) x true (slice_index times k) p (or_none _ _ (or_none _ _ (or_none _ _ f.stands).1).1).0 c))

nothing_kept : (tests : List Test) (later : List Request) → Kept tests [] later []
unfolding some_passes touch_is_down last_said
nothing_kept tests later = record {
  same = record { ends = refl; next = refl; mask = λ d. refl; closing = λ d. refl };
  down = λ d t. refl;
  group = λ d h. absurd cc;
}

-- what passes of what can be played back can be played back
pub sifted_right : (setup : Setup) (tests : List Test) (times : List ℕ) (items : List Request) → IsReplayable setup items → IsReplayable setup (sifted tests times items)
sifted_right setup tests times items h = from setup tests times items [] [] 0 h (nothing_kept tests items)
