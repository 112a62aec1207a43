-- The steps of a script, one by one.
use Rattle.std.proofs.Common.{◌≡◌, ℕ, suc, ◌+◌, ◌<◌, ◌≤◌, Bool, true, false, if◌then◌else◌, List, [], ◌∷◌, ◌++◌, map, length, take, drop, get_or, Option, Some, None, sym, ap, ◌∙◌, add-one, arith}
use Rattle.std.specs.Prelude.{reverse}
use Rattle.std.proofs.Math.Seq.{take-suc, drop-cons, take-length, drop-length}
use Rattle.std.proofs.lemmas.List.{reverse-append, map-append, length-reverse, length-map, length-take-le, take-append-drop}
use Rattle.ei_emitting.specs.Emitted.{Step}
use Rattle.ei_emit.specs.declared.step.EmitStep.{EmitStep}
use Rattle.ei_emit.specs.Steps.{step_of, history, is_bad_step, first_bad_from}

history-append : (early late : List EmitStep) → history (early ++ late) ≡ history late ++ history early
history-append early late = ap reverse (map-append step_of early late) ∙ reverse-append (map step_of early) (map step_of late)

module _ (steps : List EmitStep) (place : ℕ) where
  -- the first of them are behind the others
  pub history_front : history steps ≡ history (drop place steps) ++ history (take place steps)
  history_front = ap history (sym (take-append-drop place steps)) ∙ history-append (take place steps) (drop place steps)

  history_length : place ≤ length steps → length (history (take place steps)) ≡ place
  history_length le = length-reverse (map step_of (take place steps)) ∙ length-map (take place steps) step_of ∙ length-take-le place steps le

  module _ (step : EmitStep) (lt : place < length steps) (is : step ≡ get_or steps place step) where
    next_is : drop place steps ≡ step ∷ drop (place + 1) steps
    next_is =
        drop-cons steps place step lt
        ∙ ap (λ (s : EmitStep). s ∷ drop (suc place) steps) (sym is)
        ∙ ap (λ (n : ℕ). step ∷ drop n steps) (sym (add-one place))

    -- one more
    pub history_more : history (take (place + 1) steps) ≡ step_of step ∷ history (take place steps)
    history_more =
        ap (λ (n : ℕ). history (take n steps)) (add-one place)
        ∙ ap history (take-suc steps place step lt)
        ∙ ap (λ (s : EmitStep). history (take place steps ++ s ∷ [])) (sym is)
        ∙ history-append (take place steps) (step ∷ [])

    good_one : (before : List Step) (later : List EmitStep) → is_bad_step before step ≡ false → first_bad_from before (step ∷ later) ≡ first_bad_from (step_of step ∷ before) later
    good_one before later good = ap (λ (b : Bool). if b then Some (length before) else first_bad_from (step_of step ∷ before) later) good

    bad_one : (before : List Step) (later : List EmitStep) → is_bad_step before step ≡ true → first_bad_from before (step ∷ later) ≡ Some (length before)
    bad_one before later bad = ap (λ (b : Bool). if b then Some (length before) else first_bad_from (step_of step ∷ before) later) bad

    -- where it isn't bad, the first bad one is among the later ones
    pub still_first : (first : Option ℕ) → is_bad_step (history (take place steps)) step ≡ false → first_bad_from (history (take place steps)) (drop place steps) ≡ first →
        first_bad_from (history (take (place + 1) steps)) (drop (place + 1) steps) ≡ first
    still_first first good so =
        ap (λ (l : List Step). first_bad_from l (drop (place + 1) steps)) history_more
        ∙ sym (good_one (history (take place steps)) (drop (place + 1) steps) good)
        ∙ ap (first_bad_from (history (take place steps))) (sym next_is)
        ∙ so

    -- and else it is the first
    pub is_first : (first : Option ℕ) → is_bad_step (history (take place steps)) step ≡ true → first_bad_from (history (take place steps)) (drop place steps) ≡ first → first ≡ Some place
    is_first first bad so =
        sym so
        ∙ ap (first_bad_from (history (take place steps))) next_is
        ∙ bad_one (history (take place steps)) (drop (place + 1) steps) bad
        ∙ ap (λ (n : ℕ). let o : Option ℕ = Some n in o) (history_length (let le : place ≤ length steps = omega (arith, lt) in le))

-- at the end
pub history_all : (steps : List EmitStep) → history (take (length steps) steps) ≡ history steps
history_all steps = ap history (take-length steps)

pub none_bad : (steps : List EmitStep) (first : Option ℕ) → first_bad_from (history (take (length steps) steps)) (drop (length steps) steps) ≡ first → first ≡ None
none_bad steps first so = sym so ∙ ap (first_bad_from (history (take (length steps) steps))) (drop-length steps)
