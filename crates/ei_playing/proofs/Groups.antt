-- What was given so far, and what waits for its frame.
use Rattle.std.proofs.Common.{◌≡◌, ℕ, ◌⊎◌, Bool, true, false, cond, eqb, List, [], ◌∷◌, ◌++◌, Option, Some, None, refl, sym, ap, ◌∙◌, arith, inl, inr}
use Rattle.std.specs.Prelude.{◌&&◌, slice_get, reverse}
use Rattle.std.proofs.lemmas.Bool.{eqb-true}
use Rattle.std.proofs.lemmas.Bool.Decides.{nat_tests}
use Rattle.std.proofs.lemmas.List.{append-nil, append_assoc, reverse-append}
use Rattle.ei_spec.specs.Message.{Raw}
use Rattle.ei_spec.specs.History.{each}
use Rattle.ei_spec.specs.Groups.{Timed, Framed, Plain as Given, Slot, Input as Waiting, Frame, Other, Free, group, gives, with_frame, timed}
use Rattle.ei_spec.proofs.GroupsLaws.{waits, group_by}
use Rattle.ei_spec.proofs.HistoryLaws.{each_more}
use Rattle.ei_input.specs.declared.input_event.InputEvent.{InputEvent}
use Rattle.ei_session.specs.Setup.{Setup}
use Rattle.ei_session.specs.Requests.{Request, Plain, Asking, item, slot, framed}
use Rattle.ei_session.proofs.Choices.{and_left, and_right}
use Rattle.ei_record.specs.Replayable.{goes_with, is_input_of}
use Rattle.ei_record.proofs.Parts.{at, slot_is, framed_one}

-- The messages have given all items but the inputs of one device that wait for their frame; and these go with the item behind.
pub record Waits (setup : Setup) (before : List Request) (past : List Raw) (next : Option Request) : Type 0 where
  pub device : ℕ
  pub time : ℕ
  pub inputs : List InputEvent
  pub group_is : group device (each (slot setup) past) ≡ inputs
  pub others : (d : ℕ) → eqb d device ≡ false → group d (each (slot setup) past) ≡ []
  pub given : (readings : List ℕ) → framed setup readings past ++ timed device time inputs ≡ reverse before
  pub newest : (d : ℕ) → is_input_of d (slice_get before 0) ≡ true → inputs ≡ [] → ⊥
  pub fits : (inputs ≡ [] → ⊥) → goes_with device time next ≡ true

-- ---- lists

timed_more : (d t : ℕ) (xs : List InputEvent) (x : InputEvent) → timed {X = InputEvent} {Y = Plain} d t (xs ++ (x ∷ [])) ≡ timed d t xs ++ (Timed d x t ∷ [])
unfolding timed
timed_more d t [] x = refl
timed_more d t (y ∷ ys) x = ap (λ (l : List Request). Timed d y t ∷ l) (timed_more d t ys x)

turned_more : (x : Request) (before : List Request) → reverse (x ∷ before) ≡ reverse before ++ (x ∷ [])
turned_more x before = reverse-append (x ∷ []) before

not_nil : {A : Type 0} (xs : List A) (x : A) → xs ++ (x ∷ []) ≡ [] → ⊥
not_nil [] x e = absurd cc
not_nil (y ∷ ys) x e = absurd cc

nil_or : {A : Type 0} (xs : List A) → (xs ≡ []) ⊎ (xs ≡ [] → ⊥)
nil_or [] = inl refl
nil_or (x ∷ xs) = inr (λ e. absurd cc)

-- ---- one more message

module _ (setup : Setup) (past : List Raw) (m : Raw) (i : Asking) (is : item past m ≡ Some i) where
  slot_item : (slot setup past m).item ≡ Some i
  slot_item = ap (λ (s : Slot InputEvent Plain). s.item) (slot_is setup past m) ∙ is

  group_next : (d : ℕ) → group d (each (slot setup) (m ∷ past)) ≡ waits d (group d (each (slot setup) past)) (Some i)
  group_next d = ap (group d) (each_more (slot setup) past m) ∙ group_by d (each (slot setup) past) (slot setup past m) (Some i) slot_item

  framed_next : (readings : List ℕ) → framed setup readings (m ∷ past) ≡ framed setup readings past ++ gives readings (each (slot setup) past) (at (Some i) (slot setup past m).serial)
  framed_next readings = framed_one setup readings past m ∙ ap (λ (o : Option Asking). framed setup readings past ++ gives readings (each (slot setup) past) (at o (slot setup past m).serial)) is

-- ---- what waits on a device that comes next

-- what waits is all of this device, and has this time
record Gathers (setup : Setup) (before : List Request) (past : List Raw) (d t : ℕ) : Type 0 where
  others : (e : ℕ) → eqb e d ≡ false → group e (each (slot setup) past) ≡ []
  given : (readings : List ℕ) → framed setup readings past ++ timed d t (group d (each (slot setup) past)) ≡ reverse before

module _ (setup : Setup) (before : List Request) (past : List Raw) (next : Option Request) (w : Waits setup before past next) where
  none_waits : w.inputs ≡ [] → (d : ℕ) → group d (each (slot setup) past) ≡ []
  none_waits e d = by (eqb d w.device) refl
    where
      by : (b : Bool) → eqb d w.device ≡ b → group d (each (slot setup) past) ≡ []
      by true h = ap (λ (n : ℕ). group n (each (slot setup) past)) (eqb-true d w.device h) ∙ w.group_is ∙ e
      by false h = w.others d h

  none_given : w.inputs ≡ [] → (readings : List ℕ) → framed setup readings past ≡ reverse before
  unfolding timed
  none_given e readings = sym (append-nil (framed setup readings past)) ∙ ap (λ (l : List InputEvent). framed setup readings past ++ timed w.device w.time l) (sym e) ∙ w.given readings

  fresh : w.inputs ≡ [] → (d t : ℕ) → Gathers setup before past d t
  unfolding timed
  fresh e d t = record {
    others = λ x h. none_waits e x;
    given = λ readings. ap (λ (l : List InputEvent). framed setup readings past ++ timed d t l) (none_waits e d) ∙ append-nil (framed setup readings past) ∙ none_given e readings;
  }

  gathered : (d t : ℕ) → d ≡ w.device → t ≡ w.time → Gathers setup before past d t
  gathered d t p q = record {
    others = λ x h. w.others x (sym (ap (eqb x) p) ∙ h);
    given = λ readings. rw (p, q, w.group_is) (w.given readings);
  }

  gathers : (d t : ℕ) → ((w.inputs ≡ [] → ⊥) → (eqb d w.device && eqb t w.time) ≡ true) → Gathers setup before past d t
  gathers d t h = elim (nil_or w.inputs) [
    | inl e ↦ fresh e d t
    | inr some ↦ gathered d t (eqb-true d w.device (and_left (eqb d w.device) (eqb t w.time) (h some))) (eqb-true t w.time (and_right (eqb d w.device) (eqb t w.time) (h some)))
  ]

-- ---- one more item

module _ (setup : Setup) (before : List Request) (past : List Raw) (m : Raw) (d t : ℕ) (x : InputEvent) (after : Option Request) where
  pub input_waits : Waits setup before past (Some (Timed d x t)) → item past m ≡ Some (Waiting d x) → goes_with d t after ≡ true → Waits setup (Timed d x t ∷ before) (m ∷ past) after
  unfolding gives
  input_waits w is goes = record {
    device = d;
    time = t;
    inputs = group d (each (slot setup) past) ++ (x ∷ []);
    group_is = group_next setup past m (Waiting d x) is d ∙ (let same : eqb d d ≡ true = grind arith in rw same refl);
    others = λ e h. group_next setup past m (Waiting d x) is e ∙ (let far : eqb d e ≡ false = grind (arith, nat_tests, h) in rw far (g.others e h));
    given = λ readings. given_so readings;
    newest = λ e h. not_nil (group d (each (slot setup) past)) x;
    fits = λ some. goes;
  }
    where
      g : Gathers setup before past d t
      g = gathers setup before past (Some (Timed d x t)) w d t w.fits

      given_so : (readings : List ℕ) → framed setup readings (m ∷ past) ++ timed d t (group d (each (slot setup) past) ++ (x ∷ [])) ≡ reverse (Timed d x t ∷ before)
      given_so readings =
          ap (λ (l : List Request). l ++ timed d t (group d (each (slot setup) past) ++ (x ∷ []))) (framed_next setup past m (Waiting d x) is readings ∙ append-nil (framed setup readings past))
          ∙ ap (λ (l : List Request). framed setup readings past ++ l) (timed_more d t (group d (each (slot setup) past)) x)
          ∙ sym (append_assoc (framed setup readings past) (timed d t (group d (each (slot setup) past))) (Timed d x t ∷ []))
          ∙ ap (λ (l : List Request). l ++ (Timed d x t ∷ [])) (g.given readings)
          ∙ sym (turned_more (Timed d x t) before)

some_frame : (xs : List InputEvent) (d s t : ℕ) → (xs ≡ [] → ⊥) → with_frame {X = InputEvent} {Y = Plain} xs d s t ≡ timed d t xs ++ (Framed d s t ∷ [])
unfolding with_frame
some_frame [] d s t some = absurd (some refl)
some_frame (x ∷ xs) d s t some = refl

module _ (setup : Setup) (before : List Request) (past : List Raw) (m : Raw) (d s t : ℕ) (after : Option Request) where
  pub frame_waits : Waits setup before past (Some (Framed d s t)) → item past m ≡ Some (Frame d s t) → is_input_of d (slice_get before 0) ≡ true → Waits setup (Framed d s t ∷ before) (m ∷ past) after
  unfolding gives timed
  frame_waits w is input = record {
    device = d;
    time = t;
    inputs = [];
    group_is = group_next setup past m (Frame d s t) is d ∙ (let same : eqb d d ≡ true = grind arith in rw same refl);
    others = λ e h. group_next setup past m (Frame d s t) is e ∙ (let far : eqb d e ≡ false = grind (arith, nat_tests, h) in rw far (g.others e h));
    given = λ readings. given_so readings;
    newest = λ e h. absurd cc;
    fits = λ none. absurd (none refl);
  }
    where
      some : w.inputs ≡ [] → ⊥
      some = w.newest d input

      both : (eqb d w.device && eqb t w.time) ≡ true
      both = w.fits some

      at_it : d ≡ w.device
      at_it = eqb-true d w.device (and_left (eqb d w.device) (eqb t w.time) both)

      g : Gathers setup before past d t
      g = gathers setup before past (Some (Framed d s t)) w d t w.fits

      there : group d (each (slot setup) past) ≡ [] → ⊥
      there e = some (sym w.group_is ∙ ap (λ (n : ℕ). group n (each (slot setup) past)) (sym at_it) ∙ e)

      given_so : (readings : List ℕ) → framed setup readings (m ∷ past) ++ timed d t [] ≡ reverse (Framed d s t ∷ before)
      given_so readings =
          append-nil (framed setup readings (m ∷ past))
          ∙ framed_next setup past m (Frame d s t) is readings
          ∙ ap (λ (l : List Request). framed setup readings past ++ l) (some_frame (group d (each (slot setup) past)) d s t there)
          ∙ sym (append_assoc (framed setup readings past) (timed d t (group d (each (slot setup) past))) (Framed d s t ∷ []))
          ∙ ap (λ (l : List Request). l ++ (Framed d s t ∷ [])) (g.given readings)
          ∙ sym (turned_more (Framed d s t) before)

-- an item that is no input and no frame
abbrev pub AsksPlain : Asking → Plain → Type 0
AsksPlain (Other d y) z = y ≡ z
AsksPlain (Free y) z = y ≡ z
AsksPlain (Waiting d x) z = ⊥
AsksPlain (Frame d s t) z = ⊥

still_empty : (d : ℕ) (xs : List InputEvent) (i : Asking) (y : Plain) → AsksPlain i y → xs ≡ [] → waits d xs (Some i) ≡ []
still_empty d xs (Other e z) y a n = by (eqb e d) n
  where
    by : (b : Bool) → xs ≡ [] → cond b [] xs ≡ []
    by true n = refl
    by false n = n
still_empty d xs (Free z) y a n = n
still_empty d xs (Waiting e x) y a n = absurd a
still_empty d xs (Frame e s t) y a n = absurd a

plain_given : (readings : List ℕ) (slots : List (Slot InputEvent Plain)) (serial : ℕ) (i : Asking) (y : Plain) → AsksPlain i y → ((d : ℕ) → group d slots ≡ []) → gives readings slots (at (Some i) serial) ≡ Given y ∷ []
unfolding gives with_frame
plain_given readings slots serial (Other d z) y a n = rw (n d, a) refl
plain_given readings slots serial (Free z) y a n = rw a refl
plain_given readings slots serial (Waiting e x) y a n = absurd a
plain_given readings slots serial (Frame e s t) y a n = absurd a

module _ (setup : Setup) (before : List Request) (past : List Raw) (m : Raw) (i : Asking) (y : Plain) (after : Option Request) where
  pub plain_waits : Waits setup before past (Some (Given y)) → item past m ≡ Some i → AsksPlain i y → Waits setup (Given y ∷ before) (m ∷ past) after
  unfolding timed
  plain_waits w is a = record {
    device = w.device;
    time = w.time;
    inputs = [];
    group_is = empty w.device;
    others = λ e h. empty e;
    given = λ readings. given_so readings;
    newest = λ e h. absurd cc;
    fits = λ some. absurd (some refl);
  }
    where
      none : w.inputs ≡ []
      none = elim (nil_or w.inputs) [ inl e ↦ e | inr some ↦ (let q : false ≡ true = w.fits some in absurd cc) ]

      empty : (d : ℕ) → group d (each (slot setup) (m ∷ past)) ≡ []
      empty d = group_next setup past m i is d ∙ still_empty d (group d (each (slot setup) past)) i y a (none_waits setup before past (Some (Given y)) w none d)

      given_so : (readings : List ℕ) → framed setup readings (m ∷ past) ++ timed w.device w.time [] ≡ reverse (Given y ∷ before)
      given_so readings =
          append-nil (framed setup readings (m ∷ past))
          ∙ framed_next setup past m i is readings
          ∙ ap (λ (l : List Request). framed setup readings past ++ l) (plain_given readings (each (slot setup) past) (slot setup past m).serial i y a (none_waits setup before past (Some (Given y)) w none))
          ∙ ap (λ (l : List Request). l ++ (Given y ∷ [])) (none_given setup before past (Some (Given y)) w none readings)
          ∙ sym (turned_more (Given y) before)

-- where nothing comes behind, nothing waits, and all items were given
pub all_given : (setup : Setup) (before : List Request) (past : List Raw) → Waits setup before past None → (readings : List ℕ) → framed setup readings past ≡ reverse before
all_given setup before past w readings = none_given setup before past None w (none w) readings
  where
    none : (v : Waits setup before past None) → v.inputs ≡ []
    none v = elim (nil_or v.inputs) [ inl e ↦ e | inr some ↦ (let q : false ≡ true = v.fits some in absurd cc) ]
