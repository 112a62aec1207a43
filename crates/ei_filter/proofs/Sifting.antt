-- The loop over the items of a record: what was handed out so far, and what the items so far leave to those behind them.
use Rattle.std.proofs.Common.{◌≡◌, ℕ, ◌+◌, Bool, true, false, cond, ◌&&◌, ◌||◌, eqb, List, [], ◌∷◌, ◌++◌, map, length, take, Option, Some, None, refl, sym, ap, subst, ◌∙◌, ◌⊎◌, inl, inr, arith}
use Rattle.std.specs.Prelude.{is_some, slice_index}
use Rattle.std.specs.List.{AllZip}
use Rattle.std.proofs.lemmas.Bool.{eqb-true}
use Rattle.std.proofs.lemmas.Bool.Decides.{nat_tests}
use Rattle.std.proofs.lemmas.List.{append_assoc, append-nil, map-append, length-append}
use Rattle.std.proofs.lemmas.List.Elements.{AllZip-push}
use Rattle.ei_spec.specs.Groups.{Timed, Framed, Plain as Given}
use Rattle.ei_input.specs.declared.input_event.InputEvent.{InputEvent}
use Rattle.ei_input.specs.declared.input_event.InputEvent.TheVariants as input_event
use Rattle.ei_session.specs.Requests.{Request, Plain}
use Rattle.ei_filter.specs.declared.past.Group.{Group}
use Rattle.ei_filter.specs.declared.past.Past.{Past}
use Rattle.ei_filter.specs.Sifted.{Test, is_let, is_framed, begins, passes_with, begun_of, input_passes, some_passes, passes, timed_by, kept, counted, sifted_from, sifted}
use Rattle.ei_filter.specs.Sifts.{passed_from, passed, frame_times, Sifts, SiftsInPart}
use Rattle.ei_filter.specs.Kinds.{touch_of, kind_of}
use Rattle.ei_filter.specs.Begun.{begun_in, after_input}
use Rattle.ei_filter.specs.Steps.{frame_ahead, new_group, group_for, IsTimeOf, time_for, if_timed, PassesInput, passes_in, InputGoes, Goes}
use Rattle.ei_filter.proofs.Noted.{begun_after, passes_with_as}

self : (n : ℕ) → eqb n n ≡ true
self n = grind (arith, nat_tests)

turned : (a b : ℕ) → eqb a b ≡ eqb b a
turned a b = grind (arith, nat_tests)

-- ---- the definitions, an item on

module _ (tests : List Test) where
  begun_one : (d t : ℕ) (item : Request) (before later : List Request) → begun_of tests d t (item ∷ before) later ≡ cond (begins d t item) (is_let tests item && is_framed d later) (begun_of tests d t before (item ∷ later))
  unfolding begun_of
  begun_one d t item before later = refl

  some_one : (d e : ℕ) (x : InputEvent) (t : ℕ) (before later : List Request) → some_passes tests d (Timed e x t ∷ before) later ≡ (eqb e d && (input_passes tests before d x t later || some_passes tests d before (Timed e x t ∷ later)))
  unfolding some_passes
  some_one d e x t before later = refl

  some_framed : (d e s t : ℕ) (before later : List Request) → some_passes tests d (Framed e s t ∷ before) later ≡ false
  unfolding some_passes
  some_framed d e s t before later = refl

  some_plain : (d : ℕ) (y : Plain) (before later : List Request) → some_passes tests d (Given y ∷ before) later ≡ false
  unfolding some_passes
  some_plain d y before later = refl

  some_none : (d : ℕ) (later : List Request) → some_passes tests d [] later ≡ false
  unfolding some_passes
  some_none d later = refl

  begun_none : (d t : ℕ) (later : List Request) → begun_of tests d t [] later ≡ false
  unfolding begun_of
  begun_none d t later = refl

  passes_input : (before : List Request) (d : ℕ) (x : InputEvent) (t : ℕ) (later : List Request) → passes tests before (Timed d x t) later ≡ input_passes tests before d x t later
  unfolding passes
  passes_input before d x t later = refl

  input_so : (before : List Request) (d : ℕ) (x : InputEvent) (t : ℕ) (later : List Request) → input_passes tests before d x t later ≡ (is_framed d later && passes_with tests (λ touch. begun_of tests d touch before (Timed d x t ∷ later)) (Timed d x t))
  unfolding input_passes
  input_so before d x t later = refl

  passes_frame : (before : List Request) (d s t : ℕ) (later : List Request) → passes tests before (Framed d s t) later ≡ some_passes tests d before (Framed d s t ∷ later)
  unfolding passes
  passes_frame before d s t later = refl

  passes_plain : (before : List Request) (y : Plain) (later : List Request) → passes tests before (Given y) later ≡ true
  unfolding passes
  passes_plain before y later = refl

  sifted_one : (times : List ℕ) (k : ℕ) (before : List Request) (item : Request) (later : List Request) (b : Bool) → passes tests before item later ≡ b →
      sifted_from tests times k before (item ∷ later) ≡ kept b (timed_by times k item) (sifted_from tests times (counted b k item) (item ∷ before) later)
  unfolding sifted_from
  sifted_one times k before item later b e = rw e refl

  sifted_none : (times : List ℕ) (k : ℕ) (before : List Request) → sifted_from tests times k before [] ≡ []
  unfolding sifted_from
  sifted_none times k before = refl

  passed_one : (before : List Request) (item : Request) (later : List Request) (b : Bool) → passes tests before item later ≡ b → passed_from tests before (item ∷ later) ≡ kept b item (passed_from tests (item ∷ before) later)
  unfolding passed_from
  passed_one before item later b e = rw e refl

  passed_none : (before : List Request) → passed_from tests before [] ≡ []
  unfolding passed_from
  passed_none before = refl

-- ---- the frame that comes

ahead_none : (d : ℕ) → frame_ahead d [] ≡ None
unfolding frame_ahead
ahead_none d = refl

ahead_plain : (d : ℕ) (y : Plain) (later : List Request) → frame_ahead d (Given y ∷ later) ≡ None
unfolding frame_ahead
ahead_plain d y later = refl

ahead_input : (d e : ℕ) (x : InputEvent) (t : ℕ) (later : List Request) → frame_ahead d (Timed e x t ∷ later) ≡ cond (eqb e d) (frame_ahead d later) None
unfolding frame_ahead
ahead_input d e x t later = refl

ahead_frame : (d e s t : ℕ) (later : List Request) → frame_ahead d (Framed e s t ∷ later) ≡ cond (eqb e d) (Some t) None
unfolding frame_ahead
ahead_frame d e s t later = refl

framed_ahead : (d : ℕ) (later : List Request) → is_framed d later ≡ is_some (frame_ahead d later)
unfolding is_framed frame_ahead
framed_ahead d [] = refl
framed_ahead d (Given y ∷ later) = refl
framed_ahead d (Framed e s t ∷ later) = by (eqb e d)
  where
    by : (b : Bool) → b ≡ is_some (cond b (Some t) None)
    by true = refl
    by false = refl
framed_ahead d (Timed e x t ∷ later) = by (eqb e d) (framed_ahead d later)
  where
    by : (b : Bool) → is_framed d later ≡ is_some (frame_ahead d later) → (b && is_framed d later) ≡ is_some (cond b (frame_ahead d later) None)
    by true ih = ih
    by false ih = refl

-- ---- groups

abbrev pub listed : Option ℕ → List ℕ
listed None = []
listed (Some t) = t ∷ []

-- the new time of the group, whose frame is still to come
abbrev pub pend : Option Group → List ℕ
pend None = []
pend (Some g) = listed g.time

abbrev pub HasTime : (ℕ → ℕ → Type 0) → Option ℕ → Option ℕ → Type 0
HasTime may frame None = Unit {0}
HasTime may (Some own) (Some t) = may own t
HasTime may None (Some t) = ⊥

abbrev pub Ahead : (ℕ → ℕ → Type 0) → List Request → Option Group → Type 0
Ahead may later None = Unit {0}
Ahead may later (Some g) = (frame_ahead g.device later ≡ g.frame) × HasTime may g.frame g.time

-- a group with a new time has a frame
none_listed : (may : ℕ → ℕ → Type 0) (frame time : Option ℕ) → frame ≡ None → HasTime may frame time → listed time ≡ []
none_listed may frame None e h = refl
none_listed may None (Some t) e h = absurd h
none_listed may (Some own) (Some t) e h = absurd cc

none_pend : (may : ℕ → ℕ → Type 0) (later : List Request) (o : Option Group) → ((g : Group) → o ≡ Some g → (frame_ahead g.device later ≡ None) ⊎ (g.time ≡ None)) → Ahead may later o → pend o ≡ []
none_pend may later None h a = refl
none_pend may later (Some g) h a = by (h g refl)
  where
    by : (frame_ahead g.device later ≡ None) ⊎ (g.time ≡ None) → listed g.time ≡ []
    by (inl none) = none_listed may g.frame g.time (sym a.0 ∙ none) a.1
    by (inr none) = ap listed none

module _ (may : ℕ → ℕ → Type 0) (d : ℕ) (x : InputEvent) (t : ℕ) (later : List Request) where
  -- the group that an input is in, by what it was before it
  record IsGroup (old : Option Group) (g : Group) : Type 0 where
    device : g.device ≡ d
    frame : frame_ahead d later ≡ g.frame
    time : HasTime may g.frame g.time
    same : pend old ≡ listed g.time
    known : is_some (time_for d old) ≡ is_some g.time

  group_other : (h : Group) → eqb h.device d ≡ false → Ahead may (Timed d x t ∷ later) (Some h) → IsGroup (Some h) (new_group d later)
  group_other h e a = record {
    device = refl;
    frame = refl;
    time = tt;
    same = none_pend may (Timed d x t ∷ later) (Some h) (λ g q. let is : h ≡ g = cc in subst (λ (k : Group). (frame_ahead k.device (Timed d x t ∷ later) ≡ None) ⊎ (k.time ≡ None)) is (inl (ahead_input h.device d x t later ∙ rw (turned d h.device, e) refl))) a;
    known = rw e refl;
  }

  group_same : (h : Group) → eqb h.device d ≡ true → Ahead may (Timed d x t ∷ later) (Some h) → IsGroup (Some h) h
  group_same h e a = record {
    device = eqb-true h.device d e;
    frame = ap (λ (n : ℕ). frame_ahead n later) (sym (eqb-true h.device d e)) ∙ sym (ahead_input h.device d x t later ∙ rw (turned d h.device, e) refl) ∙ a.0;
    time = a.1;
    same = refl;
    known = rw e refl;
  }

  group_is : (old : Option Group) → Ahead may (Timed d x t ∷ later) old → IsGroup old (group_for d later old)
  group_is None a = record { device = refl; frame = refl; time = tt; same = refl; known = refl }
  group_is (Some h) a = by (eqb h.device d) refl
    where
      by : (b : Bool) → eqb h.device d ≡ b → IsGroup (Some h) (cond b h (new_group d later))
      by true e = group_same h e a
      by false e = group_other h e a

-- ---- what was handed out so far

module _ {R : Type 0} (see : R → Request) (may : ℕ → ℕ → Type 0) (tests : List Test) (items : List Request) (old : List R) where
  -- behind the items before, with these to come
  pub record Sifting (before later : List Request) (p : Past) (new : List R) : Type 0 where
    pub grown : List R
    pub grew : new ≡ old ++ grown
    pub times : List ℕ
    pub owns : List ℕ
    pub given : AllZip may owns times
    pub all : frame_times (passed tests items) ≡ owns ++ frame_times (passed_from tests before later)
    pub so : (more : List ℕ) → sifted tests (times ++ (pend p.group ++ more)) items ≡ map see grown ++ sifted_from tests (times ++ (pend p.group ++ more)) (length times) before later
    pub some : (d : ℕ) → some_passes tests d before later ≡ is_some (time_for d p.group)
    pub ahead : Ahead may later p.group
    pub begun : (d t : ℕ) → begun_in d t p.begun.devices.items ≡ begun_of tests d t before later

  pub at_first : (p : Past) → p.group ≡ None → p.begun.devices.items ≡ [] → Sifting [] items p old
  at_first p g b = record {
    grown = [];
    grew = sym (append-nil old);
    times = [];
    owns = [];
    given = tt;
    all = refl;
    so = λ more. refl;
    some = λ d. some_none tests d items ∙ rw g refl;
    ahead = subst (Ahead may items) (sym g) tt;
    begun = λ d t. rw b (sym (begun_none tests d t items));
  }

  grows : (xs ys zs : List R) (mid new : List R) → mid ≡ old ++ xs → new ≡ mid ++ ys → new ≡ old ++ (xs ++ ys)
  grows xs ys zs mid new p q = q ∙ ap (λ (l : List R). l ++ ys) p ∙ append_assoc old xs ys

  -- an item more is handed out
  passed_on : (xs ys : List R) (item : Request) (rest : List Request) → map see ys ≡ item ∷ [] → map see xs ++ (item ∷ rest) ≡ map see (xs ++ ys) ++ rest
  passed_on xs ys item rest h =
      sym (append_assoc (map see xs) (item ∷ []) rest)
      ∙ ap (λ (l : List Request). map see xs ++ l ++ rest) (sym h)
      ∙ ap (λ (l : List Request). l ++ rest) (sym (map-append see xs ys))

  dropped_on : (xs ys : List R) → map see ys ≡ [] → map see xs ≡ map see (xs ++ ys)
  dropped_on xs ys h = sym (map-append see xs ys ∙ ap (λ (l : List Request). map see xs ++ l) h ∙ append-nil (map see xs))

  -- ---- what is no input and no frame

  one_plain : (y : Plain) (before later : List Request) (p q : Past) (mid new more : List R) → Sifting before (Given y ∷ later) p mid → new ≡ mid ++ more →
      map see more ≡ Given y ∷ [] → q.group ≡ None → q.begun.devices.items ≡ p.begun.devices.items → Sifting (Given y ∷ before) later q new
  one_plain y before later p q mid new more c n h g b =
      let quiet : pend p.group ≡ [] = none_pend may (Given y ∷ later) p.group (λ k e. inl (ahead_plain k.device y later)) c.ahead in
      let gone : pend q.group ≡ pend p.group = ap pend g ∙ sym quiet in
      let pass = passes_plain tests before y later in
      record {
        grown = c.grown ++ more;
        grew = grows c.grown more [] mid new c.grew n;
        times = c.times;
        owns = c.owns;
        given = c.given;
        all = c.all ∙ ap (λ (l : List Request). c.owns ++ frame_times l) (passed_one tests before (Given y) later true pass);
        so = λ later_times. rw gone (c.so later_times
            ∙ ap (λ (l : List Request). map see c.grown ++ l) (sifted_one tests (c.times ++ (pend p.group ++ later_times)) (length c.times) before (Given y) later true pass)
            ∙ passed_on c.grown more (Given y) (sifted_from tests (c.times ++ (pend p.group ++ later_times)) (length c.times) (Given y ∷ before) later) h);
        some = λ d. some_plain tests d y before later ∙ rw g refl;
        ahead = subst (Ahead may later) (sym g) tt;
        begun = λ d t. rw b (c.begun d t ∙ sym (begun_one tests d t (Given y) before later));
      }

  -- ---- a frame

  -- no input of its group passed
  frame_off : (d s t : ℕ) (before later : List Request) (p q : Past) (mid new more : List R) → Sifting before (Framed d s t ∷ later) p mid → new ≡ mid ++ more →
      time_for d p.group ≡ None → map see more ≡ [] → q.group ≡ None → q.begun.devices.items ≡ p.begun.devices.items → Sifting (Framed d s t ∷ before) later q new
  frame_off d s t before later p q mid new more c n off h g b =
      let quiet : pend p.group ≡ [] = none_pend may (Framed d s t ∷ later) p.group (λ k e. not_it k (eqb k.device d) refl (ap (time_for d) (sym e) ∙ off)) c.ahead in
      let gone : pend q.group ≡ pend p.group = ap pend g ∙ sym quiet in
      let pass : passes tests before (Framed d s t) later ≡ false = passes_frame tests before d s t later ∙ c.some d ∙ ap is_some off in
      record {
        grown = c.grown ++ more;
        grew = grows c.grown more [] mid new c.grew n;
        times = c.times;
        owns = c.owns;
        given = c.given;
        all = c.all ∙ ap (λ (l : List Request). c.owns ++ frame_times l) (passed_one tests before (Framed d s t) later false pass);
        so = λ later_times. rw gone (c.so later_times
            ∙ ap (λ (l : List Request). map see c.grown ++ l) (sifted_one tests (c.times ++ (pend p.group ++ later_times)) (length c.times) before (Framed d s t) later false pass)
            ∙ ap (λ (l : List Request). l ++ sifted_from tests (c.times ++ (pend p.group ++ later_times)) (length c.times) (Framed d s t ∷ before) later) (dropped_on c.grown more h));
        some = λ e. some_framed tests e d s t before later ∙ rw g refl;
        ahead = subst (Ahead may later) (sym g) tt;
        begun = λ e u. rw b (c.begun e u ∙ sym (begun_one tests e u (Framed d s t) before later));
      }
    where
      not_it : (k : Group) (b : Bool) → eqb k.device d ≡ b → cond (eqb k.device d) k.time None ≡ None → (frame_ahead k.device (Framed d s t ∷ later) ≡ None) ⊎ (k.time ≡ None)
      not_it k true e h = inr (sym (rw e refl) ∙ h)
      not_it k false e h = inl (ahead_frame k.device d s t later ∙ rw (turned d k.device, e) refl)

  some_same : (a b : ℕ) → Some a ≡ Some b → a ≡ b
  some_same a b e = cc

  -- the group of the frame
  record IsDue (d s t time : ℕ) (later : List Request) (o : Option Group) : Type 0 where
    due : pend o ≡ time ∷ []
    may_be : may t time

  is_due : (d s t time : ℕ) (later : List Request) (o : Option Group) → time_for d o ≡ Some time → Ahead may (Framed d s t ∷ later) o → IsDue d s t time later o
  is_due d s t time later None h a = absurd cc
  is_due d s t time later (Some g) h a = by (eqb g.device d) refl h
    where
      has : (frame known : Option ℕ) → frame ≡ Some t → known ≡ Some time → HasTime may frame known → may t time
      has frame known p q z = subst (λ (o : Option ℕ). HasTime may o (Some time)) p (subst (HasTime may frame) q z)

      by : (b : Bool) → eqb g.device d ≡ b → cond (eqb g.device d) g.time None ≡ Some time → IsDue d s t time later (Some g)
      by true e k =
          let known : g.time ≡ Some time = sym (rw e refl) ∙ k in
          let frame : g.frame ≡ Some t = sym a.0 ∙ ahead_frame g.device d s t later ∙ rw (turned d g.device, e) refl in
          record { due = ap listed known; may_be = has g.frame g.time frame known a.1 }
      by false e k = let none : None ≡ Some time = sym (rw e refl) ∙ k in absurd cc

  seam : (xs : List ℕ) (y : ℕ) (ys : List ℕ) → slice_index (xs ++ (y ∷ ys)) (length xs) ≡ y
  seam [] y ys = refl
  seam (x ∷ xs) y ys = seam xs y ys

  -- one did: the frame has the time of the group
  frame_on : (d s t time : ℕ) (before later : List Request) (p q : Past) (mid new more : List R) → Sifting before (Framed d s t ∷ later) p mid → new ≡ mid ++ more →
      time_for d p.group ≡ Some time → map see more ≡ Framed d s time ∷ [] → q.group ≡ None → q.begun.devices.items ≡ p.begun.devices.items → Sifting (Framed d s t ∷ before) later q new
  frame_on d s t time before later p q mid new more c n on h g b =
      let due = is_due d s t time later p.group on c.ahead in
      let pass : passes tests before (Framed d s t) later ≡ true = passes_frame tests before d s t later ∙ c.some d ∙ ap is_some on in
      let rest = passed_from tests (Framed d s t ∷ before) later in
      record {
        grown = c.grown ++ more;
        grew = grows c.grown more [] mid new c.grew n;
        times = c.times ++ time ∷ [];
        owns = c.owns ++ t ∷ [];
        given = AllZip-push may c.owns c.times t time c.given due.may_be;
        all = c.all ∙ ap (λ (l : List Request). c.owns ++ frame_times l) (passed_one tests before (Framed d s t) later true pass) ∙ sym (append_assoc c.owns (t ∷ []) (frame_times rest));
        so = λ later_times. so_one later_times (pend q.group) (ap pend g) due.due pass;
        some = λ e. some_framed tests e d s t before later ∙ rw g refl;
        ahead = subst (Ahead may later) (sym g) tt;
        begun = λ e u. rw b (c.begun e u ∙ sym (begun_one tests e u (Framed d s t) before later));
      }
    where
      so_one : (m : List ℕ) (none : List ℕ) → none ≡ [] → pend p.group ≡ time ∷ [] → passes tests before (Framed d s t) later ≡ true →
          sifted tests ((c.times ++ time ∷ []) ++ (none ++ m)) items ≡ map see (c.grown ++ more) ++ sifted_from tests ((c.times ++ time ∷ []) ++ (none ++ m)) (length (c.times ++ time ∷ [])) (Framed d s t ∷ before) later
      so_one m none gone due pass =
          let whole = c.times ++ (time ∷ m) in
          let same : (c.times ++ time ∷ []) ++ (none ++ m) ≡ whole = ap (λ (l : List ℕ). (c.times ++ time ∷ []) ++ (l ++ m)) gone ∙ append_assoc c.times (time ∷ []) m in
          let was : c.times ++ (pend p.group ++ m) ≡ whole = ap (λ (l : List ℕ). c.times ++ (l ++ m)) due in
          let next : length (c.times ++ time ∷ []) ≡ length c.times + 1 = length-append c.times (time ∷ []) in
          let before_it = subst (λ (l : List ℕ). sifted tests l items ≡ map see c.grown ++ sifted_from tests l (length c.times) before (Framed d s t ∷ later)) was (c.so m) in
          rw (same, next)
          (before_it
          ∙ ap (λ (l : List Request). map see c.grown ++ l) (sifted_one tests whole (length c.times) before (Framed d s t) later true pass)
          ∙ ap (λ (k : ℕ). map see c.grown ++ (Framed d s k ∷ sifted_from tests whole (length c.times + 1) (Framed d s t ∷ before) later)) (seam c.times time m)
          ∙ passed_on c.grown more (Framed d s time) (sifted_from tests whole (length c.times + 1) (Framed d s t ∷ before) later) h)

  -- ---- an input

  -- it passes, where its group has a frame and the rules let it through, or its touch has begun
  input_as : (d t : ℕ) (x : InputEvent) (before later : List Request) (devices : List (ℕ × List (ℕ × Bool))) (g : Group) → frame_ahead d later ≡ g.frame →
      ((u : ℕ) → begun_in d u devices ≡ begun_of tests d u before (Timed d x t ∷ later)) →
      input_passes tests before d x t later ≡ passes_in g (touch_of x) (is_let tests (Timed d x t)) (λ u. begun_in d u devices)
  input_as d t x before later devices g f h =
      input_so tests before d x t later
      ∙ ap (λ (b : Bool). b && passes_with tests (λ touch. begun_of tests d touch before (Timed d x t ∷ later)) (Timed d x t)) (framed_ahead d later ∙ ap is_some f)
      ∙ ap (λ (b : Bool). is_some g.frame && b) (passes_with_as tests d t x (λ touch. begun_of tests d touch before (Timed d x t ∷ later)) (λ u. begun_in d u devices) h)

  and_turned : (a b : Bool) → (a && b) ≡ (b && a)
  and_turned true true = refl
  and_turned true false = refl
  and_turned false true = refl
  and_turned false false = refl

  -- a begin is one that passes
  begins_as : (d t : ℕ) (x : InputEvent) (later : List Request) (g : Group) (known : ℕ → Bool) (e u : ℕ) (z : Bool) → frame_ahead d later ≡ g.frame →
      cond (begins e u (Timed d x t)) (passes_in g (touch_of x) (is_let tests (Timed d x t)) known) z ≡ cond (begins e u (Timed d x t)) (is_let tests (Timed d x t) && is_framed e later) z
  begins_as d t (input_event.TouchDown v a c) later g known e u z f = by (eqb d e) refl
    where
      is : Bool
      is = is_let tests (Timed d (input_event.TouchDown v a c) t)

      by : (b : Bool) → eqb d e ≡ b → cond (b && eqb v u) (is_some g.frame && is) z ≡ cond (b && eqb v u) (is && is_framed e later) z
      by true q = ap (λ (b : Bool). cond (eqb v u) b z) (and_turned (is_some g.frame) is ∙ ap (λ (b : Bool). is && b) (ap is_some (sym f) ∙ sym (framed_ahead d later) ∙ ap (λ (n : ℕ). is_framed n later) (eqb-true d e q)))
      by false q = refl
  begins_as d t x later g known e u z f = refl

  -- which groups have an input that passed
  some_after : (d t : ℕ) (x : InputEvent) (before later : List Request) (g : Group) (b : Bool) (known : Option ℕ) (o : Option Group) → g.device ≡ d → input_passes tests before d x t later ≡ b → some_passes tests d before (Timed d x t ∷ later) ≡ is_some g.time →
      o ≡ Some (record g { time = known }) → is_some known ≡ (b || is_some g.time) → (e : ℕ) → some_passes tests e (Timed d x t ∷ before) later ≡ is_some (time_for e o)
  some_after d t x before later g b known o dev p s h k e = some_one tests e d x t before later ∙ by (eqb d e) refl
    where
      after : (c : Bool) → eqb d e ≡ c → is_some (cond c known None) ≡ is_some (time_for e o)
      after c q = rw (h, dev, q) refl

      by : (c : Bool) → eqb d e ≡ c → (c && (input_passes tests before e x t later || some_passes tests e before (Timed d x t ∷ later))) ≡ is_some (time_for e o)
      by true q =
          let same : d ≡ e = eqb-true d e q in
          ap (λ (n : ℕ). input_passes tests before n x t later || some_passes tests n before (Timed d x t ∷ later)) (sym same)
          ∙ rw (p, s) (sym k) ∙ after true q
      by false q = after false q

  module _ (d t : ℕ) (x : InputEvent) (before later : List Request) (p q : Past) (mid new more : List R) (c : Sifting before (Timed d x t ∷ later) p mid) (n : new ≡ mid ++ more) where
    grp : Group
    grp = group_for d later p.group

    abbrev Let : Bool
    Let = is_let tests (Timed d x t)

    abbrev Known : ℕ → Bool
    Known u = begun_in d u p.begun.devices.items

    so_passes : (g : Group) → IsGroup may d x t later p.group g → input_passes tests before d x t later ≡ passes_in g (touch_of x) Let Known
    so_passes g i = input_as d t x before later p.begun.devices.items g i.frame (λ u. c.begun d u)

    some_here : (g : Group) → IsGroup may d x t later p.group g → some_passes tests d before (Timed d x t ∷ later) ≡ is_some g.time
    some_here g i = c.some d ∙ i.known

    begun_so : (g : Group) → IsGroup may d x t later p.group g → q.begun.devices.items ≡ after_input d (touch_of x) (passes_in g (touch_of x) Let Known) p.begun.devices.items → (e u : ℕ) → begun_in e u q.begun.devices.items ≡ begun_of tests e u (Timed d x t ∷ before) later
    begun_so g i b e u =
        rw b (begun_after d t x (passes_in g (touch_of x) Let Known) p.begun.devices.items e u
        ∙ ap (cond (begins e u (Timed d x t)) (passes_in g (touch_of x) Let Known)) (c.begun e u)
        ∙ begins_as d t x later g Known e u (begun_of tests e u before (Timed d x t ∷ later)) i.frame
        ∙ sym (begun_one tests e u (Timed d x t) before later))

    -- it falls
    input_off : (g : Group) → IsGroup may d x t later p.group g → passes_in g (touch_of x) Let Known ≡ false → q.group ≡ Some g → map see more ≡ [] →
        q.begun.devices.items ≡ after_input d (touch_of x) (passes_in g (touch_of x) Let Known) p.begun.devices.items → Sifting (Timed d x t ∷ before) later q new
    input_off g i off h w b =
        let falls : input_passes tests before d x t later ≡ false = so_passes g i ∙ off in
        let pass : passes tests before (Timed d x t) later ≡ false = passes_input tests before d x t later ∙ falls in
        let kept_so : pend q.group ≡ pend p.group = ap pend h ∙ sym i.same in
        record {
          grown = c.grown ++ more;
          grew = grows c.grown more [] mid new c.grew n;
          times = c.times;
          owns = c.owns;
          given = c.given;
          all = c.all ∙ ap (λ (l : List Request). c.owns ++ frame_times l) (passed_one tests before (Timed d x t) later false pass);
          so = λ m. rw kept_so (c.so m
              ∙ ap (λ (l : List Request). map see c.grown ++ l) (sifted_one tests (c.times ++ (pend p.group ++ m)) (length c.times) before (Timed d x t) later false pass)
              ∙ ap (λ (l : List Request). l ++ sifted_from tests (c.times ++ (pend p.group ++ m)) (length c.times) (Timed d x t ∷ before) later) (dropped_on c.grown more w));
          some = some_after d t x before later g false g.time q.group i.device falls (some_here g i) h refl;
          ahead = subst (Ahead may later) (sym h) (ap (λ (k : ℕ). frame_ahead k later) i.device ∙ i.frame, i.time);
          begun = begun_so g i b;
        }

    known_so : (known : Option ℕ) (time : ℕ) (m : List ℕ) → ((t : ℕ) → known ≡ Some t → time ≡ t) → (more : List ℕ) × (listed known ++ more ≡ time ∷ m)
    known_so None time m h = (time ∷ m, refl)
    known_so (Some t) time m h = (m, ap (λ (n : ℕ). n ∷ m) (sym (h t refl)))

    time_known : (frame known : Option ℕ) (time : ℕ) → IsTimeOf may frame known time → HasTime may frame known → ((t : ℕ) → known ≡ Some t → time ≡ t) × HasTime may frame (Some time)
    time_known frame (Some t) time i h = (λ u e. i ∙ (let same : t ≡ u = cc in same), subst (λ (n : ℕ). HasTime may frame (Some n)) (sym i) h)
    time_known (Some own) None time i h = (λ u e. absurd cc, i)
    time_known None None time i h = absurd i

    -- it passes
    input_on : (g : Group) → IsGroup may d x t later p.group g → passes_in g (touch_of x) Let Known ≡ true → (time : ℕ) → IsTimeOf may g.frame g.time time → q.group ≡ Some (record g { time = Some time }) → map see more ≡ Timed d x time ∷ [] →
        q.begun.devices.items ≡ after_input d (touch_of x) (passes_in g (touch_of x) Let Known) p.begun.devices.items → Sifting (Timed d x t ∷ before) later q new
    input_on g i on time f h w b =
        let goes : input_passes tests before d x t later ≡ true = so_passes g i ∙ on in
        let pass : passes tests before (Timed d x t) later ≡ true = passes_input tests before d x t later ∙ goes in
        let known = time_known g.frame g.time time f i.time in
        record {
          grown = c.grown ++ more;
          grew = grows c.grown more [] mid new c.grew n;
          times = c.times;
          owns = c.owns;
          given = c.given;
          all = c.all ∙ ap (λ (l : List Request). c.owns ++ frame_times l) (passed_one tests before (Timed d x t) later true pass);
          so = λ m. so_one m (pend q.group) (ap pend h) (known_so g.time time m known.0) pass;
          some = some_after d t x before later g true (Some time) q.group i.device goes (some_here g i) h refl;
          ahead = subst (Ahead may later) (sym h) (ap (λ (k : ℕ). frame_ahead k later) i.device ∙ i.frame, known.1);
          begun = begun_so g i b;
        }
      where
        so_one : (m now : List ℕ) → now ≡ time ∷ [] → ((l : List ℕ) × (listed g.time ++ l ≡ time ∷ m)) → passes tests before (Timed d x t) later ≡ true →
            sifted tests (c.times ++ (now ++ m)) items ≡ map see (c.grown ++ more) ++ sifted_from tests (c.times ++ (now ++ m)) (length c.times) (Timed d x t ∷ before) later
        so_one m now is l pass =
            let whole = c.times ++ (time ∷ m) in
            let same : c.times ++ (now ++ m) ≡ whole = ap (λ (k : List ℕ). c.times ++ (k ++ m)) is in
            let was : c.times ++ (pend p.group ++ l.0) ≡ whole = ap (λ (k : List ℕ). c.times ++ (k ++ l.0)) i.same ∙ ap (λ (k : List ℕ). c.times ++ k) l.1 in
            let before_it = subst (λ (k : List ℕ). sifted tests k items ≡ map see c.grown ++ sifted_from tests k (length c.times) before (Timed d x t ∷ later)) was (c.so l.0) in
            rw same
            (before_it
            ∙ ap (λ (k : List Request). map see c.grown ++ k) (sifted_one tests whole (length c.times) before (Timed d x t) later true pass)
            ∙ ap (λ (k : ℕ). map see c.grown ++ (Timed d x k ∷ sifted_from tests whole (length c.times) (Timed d x t ∷ before) later)) (seam c.times time m)
            ∙ passed_on c.grown more (Timed d x time) (sifted_from tests whole (length c.times) (Timed d x t ∷ before) later) w)

    one_input : InputGoes may (group_for d later p.group) d (touch_of x) Let (Timed d x t) p q (map see more) → Sifting (Timed d x t ∷ before) later q new
    one_input h = by (passes_in (group_for d later p.group) (touch_of x) Let Known) refl h.0
      where
        i : IsGroup may d x t later p.group (group_for d later p.group)
        i = group_is may d x t later p.group c.ahead

        by : (b : Bool) → passes_in (group_for d later p.group) (touch_of x) Let Known ≡ b → PassesInput may b (group_for d later p.group) (Timed d x t) q.group (map see more) → Sifting (Timed d x t ∷ before) later q new
        by true e k = input_on (group_for d later p.group) i e k.0 k.1 k.2 k.3 h.1
        by false e k = input_off (group_for d later p.group) i e k.0 k.1 h.1

  -- ---- one more item

  one_more : (item : Request) (before later : List Request) (p q : Past) (mid new more : List R) → Sifting before (item ∷ later) p mid → new ≡ mid ++ more →
      Goes may (is_let tests item) later item (kind_of item) p q (map see more) → Sifting (item ∷ before) later q new
  one_more (Given y) before later p q mid new more c n h = one_plain y before later p q mid new more c n h.0 h.1 h.2
  one_more (Framed d s t) before later p q mid new more c n h = by (time_for d p.group) refl h.0
    where
      by : (o : Option ℕ) → time_for d p.group ≡ o → map see more ≡ if_timed o (Framed d s t) → Sifting (Framed d s t ∷ before) later q new
      by None e k = frame_off d s t before later p q mid new more c n e k h.1 h.2
      by (Some time) e k = frame_on d s t time before later p q mid new more c n e k h.1 h.2
  one_more (Timed d x t) before later p q mid new more c n h = one_input d t x before later p q mid new more c n h

  -- the same, of the item that these begin with
  pub goes_on : (item : Request) (before later rest : List Request) (p q : Past) (mid new more : List R) → later ≡ item ∷ rest → Sifting before later p mid → new ≡ mid ++ more →
      Goes may (is_let tests item) rest item (kind_of item) p q (map see more) → Sifting (item ∷ before) rest q new
  goes_on item before later rest p q mid new more l c n h = one_more item before rest p q mid new more (subst (λ (k : List Request). Sifting before k p mid) l c) n h

  -- ---- the end

  none_at_end : (o : Option Group) → Ahead may [] o → pend o ≡ []
  none_at_end o a = none_pend may [] o (λ k e. inl (ahead_none k.device)) a

  at_end : (before : List Request) (p : Past) (new : List R) → Sifting before [] p new → Sifts see may tests items old new
  at_end before p new c = record {
    grown = c.grown;
    grew = c.grew;
    times = c.times;
    given = subst (λ (l : List ℕ). AllZip may l c.times) (sym (c.all ∙ ap (λ (l : List Request). c.owns ++ frame_times l) (passed_none tests before) ∙ append-nil c.owns)) c.given;
    passing =
        let none = none_at_end p.group c.ahead in
        let whole : c.times ++ (pend p.group ++ []) ≡ c.times = ap (λ (l : List ℕ). c.times ++ (l ++ [])) none ∙ append-nil c.times in
        let was = c.so [] in
        let so : sifted tests c.times items ≡ map see c.grown ++ sifted_from tests c.times (length c.times) before [] =
        subst (λ (l : List ℕ). sifted tests l items ≡ map see c.grown ++ sifted_from tests l (length c.times) before []) whole was in
        sym (so ∙ ap (λ (l : List Request). map see c.grown ++ l) (sifted_none tests c.times (length c.times) before) ∙ append-nil (map see c.grown));
  }

  pub ends : (before later : List Request) (p : Past) (new : List R) → later ≡ [] → Sifting before later p new → Sifts see may tests items old new
  ends before later p new l c = at_end before p new (subst (λ (k : List Request). Sifting before k p new) l c)

  -- the frame of a group of which an input passed comes next of the frames that pass
  frame_comes : (d own : ℕ) (later before : List Request) → frame_ahead d later ≡ Some own → some_passes tests d before later ≡ true → (rest : List ℕ) × (frame_times (passed_from tests before later) ≡ own ∷ rest)
  frame_comes d own [] before h s = let none : None ≡ Some own = sym (ahead_none d) ∙ h in absurd cc
  frame_comes d own (Given y ∷ later) before h s = let none : None ≡ Some own = sym (ahead_plain d y later) ∙ h in absurd cc
  frame_comes d own (Framed e n t ∷ later) before h s = by (eqb e d) refl (sym (ahead_frame d e n t later) ∙ h)
    where
      by : (b : Bool) → eqb e d ≡ b → cond (eqb e d) (Some t) None ≡ Some own → (rest : List ℕ) × (frame_times (passed_from tests before (Framed e n t ∷ later)) ≡ own ∷ rest)
      by true q k =
          let same : t ≡ own = some_same t own (sym (rw q refl) ∙ k) in
          let pass : passes tests before (Framed e n t) later ≡ true = passes_frame tests before e n t later ∙ ap (λ (m : ℕ). some_passes tests m before (Framed e n t ∷ later)) (eqb-true e d q) ∙ s in
          (frame_times (passed_from tests (Framed e n t ∷ before) later), ap frame_times (passed_one tests before (Framed e n t) later true pass) ∙ ap (λ (m : ℕ). m ∷ frame_times (passed_from tests (Framed e n t ∷ before) later)) same)
      by false q k = let none : None ≡ Some own = sym (rw q refl) ∙ k in absurd cc
  frame_comes d own (Timed e x t ∷ later) before h s = by (eqb e d) refl (sym (ahead_input d e x t later) ∙ h) (frame_comes d own later (Timed e x t ∷ before))
    where
      or_true : (a : Bool) → (a || true) ≡ true
      or_true true = refl
      or_true false = refl

      times_same : (b : Bool) → passes tests before (Timed e x t) later ≡ b → frame_times (passed_from tests before (Timed e x t ∷ later)) ≡ frame_times (passed_from tests (Timed e x t ∷ before) later)
      times_same true p = ap frame_times (passed_one tests before (Timed e x t) later true p)
      times_same false p = ap frame_times (passed_one tests before (Timed e x t) later false p)

      by : (b : Bool) → eqb e d ≡ b → cond (eqb e d) (frame_ahead d later) None ≡ Some own → (frame_ahead d later ≡ Some own → some_passes tests d (Timed e x t ∷ before) later ≡ true → (rest : List ℕ) × (frame_times (passed_from tests (Timed e x t ∷ before) later) ≡ own ∷ rest)) →
          (rest : List ℕ) × (frame_times (passed_from tests before (Timed e x t ∷ later)) ≡ own ∷ rest)
      by true q k ih =
          let next = ih (sym (rw q refl) ∙ k) (some_one tests d e x t before later ∙ rw (q, s) (or_true (input_passes tests before d x t later))) in
          (next.0, times_same (passes tests before (Timed e x t) later) refl ∙ next.1)
      by false q k ih = let none : None ≡ Some own = sym (rw q refl) ∙ k in absurd cc

  taken : (xs ys zs : List ℕ) → AllZip may xs ys → take (length ys) (xs ++ zs) ≡ xs
  taken [] [] zs h = refl
  taken [] (y ∷ ys) zs h = absurd h
  taken (x ∷ xs) [] zs h = absurd h
  taken (x ∷ xs) (y ∷ ys) zs h = ap (λ (l : List ℕ). x ∷ l) (taken xs ys zs h.1)

  -- the times with that of the group that is still to have its frame
  due_list : (before later : List Request) (o : Option Group) → ((d : ℕ) → some_passes tests d before later ≡ is_some (time_for d o)) → Ahead may later o →
      (all : List ℕ) × (rest : List ℕ) × (frame_times (passed_from tests before later) ≡ all ++ rest) × ((xs ys : List ℕ) → AllZip may xs ys → AllZip may (xs ++ all) (ys ++ pend o))
  due_list before later None some a = ([], frame_times (passed_from tests before later), refl, λ xs ys h. rw (append-nil xs, append-nil ys) h)
  due_list before later (Some g) some a = by g.frame g.time a.1 a.0 (some g.device ∙ ap (λ (b : Bool). is_some (cond b g.time None)) (self g.device))
    where
      by : (frame time : Option ℕ) → HasTime may frame time → frame_ahead g.device later ≡ frame → some_passes tests g.device before later ≡ is_some time →
          (all : List ℕ) × (rest : List ℕ) × (frame_times (passed_from tests before later) ≡ all ++ rest) × ((xs ys : List ℕ) → AllZip may xs ys → AllZip may (xs ++ all) (ys ++ listed time))
      by frame None h f s = ([], frame_times (passed_from tests before later), refl, λ xs ys z. rw (append-nil xs, append-nil ys) z)
      by None (Some t) h f s = absurd h
      by (Some own) (Some t) h f s =
          let next = frame_comes g.device own later before f s in
          (own ∷ [], next.0, next.1, λ xs ys z. AllZip-push may xs ys own t z h)

  pub in_part : (before later : List Request) (p : Past) (new : List R) → Sifting before later p new → SiftsInPart see may tests items old new
  in_part before later p new c =
      let due = due_list before later p.group c.some c.ahead in
      let times = c.times ++ pend p.group in
      let owns = c.owns ++ due.0 in
      let zipped : AllZip may owns times = due.3 c.owns c.times c.given in
      let all : frame_times (passed tests items) ≡ owns ++ due.1 = c.all ∙ ap (λ (l : List ℕ). c.owns ++ l) due.2 ∙ sym (append_assoc c.owns due.0 due.1) in
      record {
        grown = c.grown;
        grew = c.grew;
        times = times;
        given = subst (λ (l : List ℕ). AllZip may l times) (sym (ap (take (length times)) all ∙ taken owns times due.1 zipped)) zipped;
        front = λ m. (sifted_from tests (c.times ++ (pend p.group ++ m)) (length c.times) before later, ap (λ (l : List ℕ). sifted tests l items) (append_assoc c.times (pend p.group) m) ∙ c.so m);
      }
