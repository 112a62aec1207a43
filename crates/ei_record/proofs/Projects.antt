-- The inputs of a device, as they were given, as they wait, and as they were heard.
use Rattle.std.proofs.Common.{◌≡◌, ℕ, Bool, true, false, cond, eqb, List, [], ◌∷◌, ◌++◌, Option, Some, None, refl, ap, sym, ◌∙◌, append_assoc}
use Rattle.std.specs.List.{filter_map}
use Rattle.std.proofs.lemmas.Bool.{eqb-true}
use Rattle.std.proofs.lemmas.List.{append-nil}
use Rattle.std.proofs.lemmas.List.Elements.{filter_map-append}
use Rattle.ei_spec.specs.Message.{Raw}
use Rattle.ei_spec.specs.History.{each, joined, since}
use Rattle.ei_spec.specs.Groups.{Timed, Framed, Plain as Given, Slot, Input as Waiting, Frame, Other, Free, group, gives, grouped, with_frame, timed}
use Rattle.ei_spec.proofs.GroupsLaws.{waits, group_more}
use Rattle.ei_input.specs.declared.input_event.InputEvent.{InputEvent}
use Rattle.ei_session.specs.Setup.{Setup}
use Rattle.ei_session.specs.Requests.{Request, Plain, Asking, item, slot, framed}
use Rattle.ei_session.proofs.AllParts.{framed_more}

-- ---- as given

abbrev pub as_input : ℕ → Request → Option InputEvent
as_input d (Timed e x t) = cond (eqb e d) (Some x) None
as_input d (Framed e s t) = None
as_input d (Given y) = None

-- the inputs of the device, the oldest first
abbrev pub inputs_of : ℕ → List Request → List InputEvent
inputs_of d items = filter_map (as_input d) items

pub timed_case : (d e t : ℕ) (b : Bool) (x : InputEvent) (xs : List Request) → eqb e d ≡ b → inputs_of d (Timed e x t ∷ xs) ≡ cond b (x ∷ inputs_of d xs) (inputs_of d xs)
timed_case d e t true x xs q = rw q refl
timed_case d e t false x xs q = rw q refl

timed_by : (d e t : ℕ) (b : Bool) (xs : List InputEvent) → eqb e d ≡ b → inputs_of d (timed e t xs) ≡ cond b xs []
unfolding timed
timed_by d e t true [] q = refl
timed_by d e t false [] q = refl
timed_by d e t true (x ∷ xs) q = timed_case d e t true x (timed e t xs) q ∙ ap (λ (l : List InputEvent). x ∷ l) (timed_by d e t true xs q)
timed_by d e t false (x ∷ xs) q = timed_case d e t false x (timed e t xs) q ∙ timed_by d e t false xs q

framed_by : (d e s t : ℕ) (b : Bool) (xs : List InputEvent) → eqb e d ≡ b → inputs_of d (with_frame xs e s t) ≡ cond b xs []
unfolding with_frame
framed_by d e s t true [] q = refl
framed_by d e s t false [] q = refl
framed_by d e s t true (x ∷ xs) q = filter_map-append (as_input d) (timed e t (x ∷ xs)) (Framed e s t ∷ []) ∙ append-nil (inputs_of d (timed e t (x ∷ xs))) ∙ timed_by d e t true (x ∷ xs) q
framed_by d e s t false (x ∷ xs) q = filter_map-append (as_input d) (timed e t (x ∷ xs)) (Framed e s t ∷ []) ∙ append-nil (inputs_of d (timed e t (x ∷ xs))) ∙ timed_by d e t false (x ∷ xs) q

-- ---- as heard

abbrev pub heard_with : ℕ → List InputEvent → Option Asking → List InputEvent
heard_with d hs (Some (Waiting e x)) = cond (eqb e d) (hs ++ (x ∷ [])) hs
heard_with d hs (Some (Frame e s t)) = hs
heard_with d hs (Some (Other e y)) = hs
heard_with d hs (Some (Free y)) = hs
heard_with d hs None = hs

-- the inputs that were heard of the device, the oldest first
abbrev pub heard : ℕ → List Raw → List InputEvent
heard d [] = []
heard d (m ∷ before) = heard_with d (heard d before) (item before m)

-- ---- they are the same

module _ (d : ℕ) (given hs : List InputEvent) (slots : List (Slot InputEvent Plain)) (same : given ++ group d slots ≡ hs) where
  waiting_case : (e : ℕ) (x : InputEvent) (b : Bool) → eqb e d ≡ b → (given ++ []) ++ cond b (group d slots ++ (x ∷ [])) (group d slots) ≡ cond b (hs ++ (x ∷ [])) hs
  waiting_case e x true q = ap (λ (l : List InputEvent). l ++ (group d slots ++ (x ∷ []))) (append-nil given) ∙ sym (append_assoc given (group d slots) (x ∷ [])) ∙ ap (λ (l : List InputEvent). l ++ (x ∷ [])) same
  waiting_case e x false q = ap (λ (l : List InputEvent). l ++ group d slots) (append-nil given) ∙ same

  closing_case : (e s t : ℕ) (b : Bool) → eqb e d ≡ b → (given ++ inputs_of d (with_frame (group e slots) e s t)) ++ cond b [] (group d slots) ≡ hs
  closing_case e s t true q =
      append-nil (given ++ inputs_of d (with_frame (group e slots) e s t))
      ∙ ap (λ (l : List InputEvent). given ++ l) (framed_by d e s t true (group e slots) q ∙ ap (λ (n : ℕ). group n slots) (eqb-true e d q))
      ∙ same
  closing_case e s t false q =
      ap (λ (l : List InputEvent). (given ++ l) ++ group d slots) (framed_by d e s t false (group e slots) q)
      ∙ ap (λ (l : List InputEvent). l ++ group d slots) (append-nil given) ∙ same

  plain_none : (xs : List Request) (y : Plain) → inputs_of d (xs ++ (Given y ∷ [])) ≡ inputs_of d xs
  plain_none xs y = filter_map-append (as_input d) xs (Given y ∷ []) ∙ append-nil (inputs_of d xs)

  free_case : (y : Plain) → (given ++ inputs_of d (Given y ∷ [])) ++ group d slots ≡ hs
  free_case y = ap (λ (l : List InputEvent). l ++ group d slots) (append-nil given) ∙ same

  abbrev at : Option Asking → ℕ → Slot InputEvent Plain
  at i serial = record { item = i; serial = serial }

  pub one_more : (readings : List ℕ) (i : Option Asking) (serial : ℕ) → (given ++ inputs_of d (gives readings slots (at i serial))) ++ waits d (group d slots) i ≡ heard_with d hs i
  unfolding gives
  one_more readings None serial = ap (λ (l : List InputEvent). l ++ group d slots) (append-nil given) ∙ same
  one_more readings (Some (Waiting e x)) serial = waiting_case e x (eqb e d) refl
  one_more readings (Some (Frame e s t)) serial = closing_case e s t (eqb e d) refl
  one_more readings (Some (Other e y)) serial =
      ap (λ (l : List InputEvent). (given ++ l) ++ cond (eqb e d) [] (group d slots)) (plain_none (with_frame (group e slots) e serial _) y)
      ∙ closing_case e serial _ (eqb e d) refl
  one_more readings (Some (Free y)) serial = free_case y

none_framed : (setup : Setup) (readings : List ℕ) → framed setup readings [] ≡ []
unfolding framed each grouped joined
none_framed setup readings = refl

none_waits : (setup : Setup) (d : ℕ) → group d (each (slot setup) []) ≡ []
unfolding group each since
none_waits setup d = refl

each_more : (setup : Setup) (before : List Raw) (m : Raw) → each (slot setup) (m ∷ before) ≡ slot setup before m ∷ each (slot setup) before
unfolding each
each_more setup before m = refl

slot_item : (setup : Setup) (before : List Raw) (m : Raw) → (slot setup before m).item ≡ item before m
unfolding slot
slot_item setup before m = refl

-- what was given of a device, and behind it what waits, is what was heard
pub all_heard : (setup : Setup) (readings : List ℕ) (d : ℕ) (past : List Raw) → inputs_of d (framed setup readings past) ++ group d (each (slot setup) past) ≡ heard d past
all_heard setup readings d [] = ap (λ (l : List Request). inputs_of d l ++ group d (each (slot setup) [])) (none_framed setup readings) ∙ none_waits setup d
all_heard setup readings d (m ∷ before) =
    let slots = each (slot setup) before in
    let s = slot setup before m in
    ap (λ (l : List Request). inputs_of d l ++ group d (each (slot setup) (m ∷ before))) (framed_more setup readings before m)
    ∙ ap (λ (l : List InputEvent). l ++ group d (each (slot setup) (m ∷ before))) (filter_map-append (as_input d) (framed setup readings before) (gives readings slots s))
    ∙ ap (λ (l : List (Slot InputEvent Plain)). (inputs_of d (framed setup readings before) ++ inputs_of d (gives readings slots s)) ++ group d l) (each_more setup before m)
    ∙ ap (λ (l : List InputEvent). (inputs_of d (framed setup readings before) ++ inputs_of d (gives readings slots s)) ++ l) (group_more d slots s)
    ∙ one_more d (inputs_of d (framed setup readings before)) (heard d before) slots (all_heard setup readings d before) readings s.item s.serial
    ∙ ap (heard_with d (heard d before)) (slot_item setup before m)
