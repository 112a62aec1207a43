-- What was given, as a whole: what inputs and frames leave as it was, one more message leaves as its other item makes it.
use Rattle.std.proofs.Common.{◌≡◌, ℕ, List, [], ◌∷◌, ◌++◌, Option, Some, None, refl, ap, ◌∙◌}
use Rattle.std.specs.Prelude.{slice_index}
use Rattle.ei_spec.specs.Message.{Raw}
use Rattle.ei_spec.specs.History.{each, joined}
use Rattle.ei_spec.specs.Groups.{Timed, Framed, Plain as Given, Slot, Input as Waiting, Frame, Other, Free, group, grouped, gives, with_frame, timed, frames_made}
use Rattle.ei_input.specs.declared.input_event.InputEvent.{InputEvent}
use Rattle.ei_session.specs.Setup.{Setup}
use Rattle.ei_session.specs.Requests.{Request, Plain, Asking, item, slot, framed}
use Rattle.ei_session.proofs.AllParts.{framed_more}
use Rattle.ei_record.proofs.Lists.{onto, onto_append}

-- what was given, the newest first
abbrev pub back : Setup → List ℕ → List Raw → List Request
back setup readings past = onto (framed setup readings past) []

-- the item behind a group
abbrev pub plains : Option Asking → List Request
plains (Some (Other d y)) = Given y ∷ []
plains (Some (Free y)) = Given y ∷ []
plains i = []

abbrev pub at : Option Asking → ℕ → Slot InputEvent Plain
at i serial = record { item = i; serial = serial }

module _ {X : Type 0} (f : List Request → X) (over_input : (before : List Request) (d : ℕ) (x : InputEvent) (t : ℕ) → f (Timed d x t ∷ before) ≡ f before)
    (over_frame : (before : List Request) (d s t : ℕ) → f (Framed d s t ∷ before) ≡ f before) where
  timed_same : (xs : List InputEvent) (d t : ℕ) (before : List Request) → f (onto (timed d t xs) before) ≡ f before
  unfolding timed
  timed_same [] d t before = refl
  timed_same (x ∷ xs) d t before = timed_same xs d t (Timed d x t ∷ before) ∙ over_input before d x t

  pub frame_same : (xs : List InputEvent) (d s t : ℕ) (before : List Request) → f (onto (with_frame xs d s t) before) ≡ f before
  unfolding with_frame
  frame_same [] d s t before = refl
  frame_same (x ∷ xs) d s t before =
      ap f (onto_append (timed d t (x ∷ xs)) (Framed d s t ∷ []) before)
      ∙ over_frame (onto (timed d t (x ∷ xs)) before) d s t
      ∙ timed_same (x ∷ xs) d t before

  plain_more : (y : Plain) (one : (a b : List Request) → f a ≡ f b → f (Given y ∷ a) ≡ f (Given y ∷ b)) (xs : List InputEvent) (d s t : ℕ) (before : List Request) →
      f (onto (with_frame xs d s t ++ (Given y ∷ [])) before) ≡ f (Given y ∷ before)
  plain_more y one xs d s t before =
      ap f (onto_append (with_frame xs d s t) (Given y ∷ []) before) ∙ one (onto (with_frame xs d s t) before) before (frame_same xs d s t before)

  pub gives_same : ((y : Plain) (a b : List Request) → f a ≡ f b → f (Given y ∷ a) ≡ f (Given y ∷ b)) → (readings : List ℕ) (slots : List (Slot InputEvent Plain)) (serial : ℕ) (i : Option Asking) (before : List Request) →
      f (onto (gives readings slots (at i serial)) before) ≡ f (onto (plains i) before)
  unfolding gives
  gives_same one readings slots serial None before = refl
  gives_same one readings slots serial (Some (Waiting d x)) before = refl
  gives_same one readings slots serial (Some (Frame d s t)) before = frame_same (group d slots) d s t before
  gives_same one readings slots serial (Some (Other d y)) before = plain_more y (one y) (group d slots) d serial (slice_index readings (frames_made slots)) before
  gives_same one readings slots serial (Some (Free y)) before = refl

pub nothing_framed : (setup : Setup) (readings : List ℕ) → framed setup readings [] ≡ []
unfolding framed each grouped joined
nothing_framed setup readings = refl

pub slot_is : (setup : Setup) (before : List Raw) (m : Raw) → slot setup before m ≡ at (item before m) (slot setup before m).serial
unfolding slot
slot_is setup before m = refl

pub back_none : (setup : Setup) (readings : List ℕ) → back setup readings [] ≡ []
back_none setup readings = ap (λ (l : List Request). onto l []) (nothing_framed setup readings)

-- what one message more gives
abbrev pub given_by : Setup → List ℕ → List Raw → Raw → List Request
given_by setup readings before m = gives readings (each (slot setup) before) (at (item before m) (slot setup before m).serial)

pub framed_one : (setup : Setup) (readings : List ℕ) (before : List Raw) (m : Raw) → framed setup readings (m ∷ before) ≡ framed setup readings before ++ given_by setup readings before m
framed_one setup readings before m =
    framed_more setup readings before m ∙ ap (λ s. framed setup readings before ++ gives readings (each (slot setup) before) s) (slot_is setup before m)

pub back_more : (setup : Setup) (readings : List ℕ) (before : List Raw) (m : Raw) → back setup readings (m ∷ before) ≡ onto (given_by setup readings before m) (back setup readings before)
back_more setup readings before m =
    ap (λ (l : List Request). onto l []) (framed_one setup readings before m)
    ∙ onto_append (framed setup readings before) (given_by setup readings before m) []
