-- The steps of a script, from the first to the last or to the first bad one.
use Rattle.std.proofs.Common.{◌≡◌, ℕ, ◌+◌, ◌<◌, ◌≤◌, Bool, true, false, List, [], ◌++◌, length, take, drop, get_or, Option, Some, Result, Ok, Err, refl, sym, ap, subst, ◌∙◌, arith}
use Rattle.std.specs.Prelude.{IsErr, IsErrAnd}
use Rattle.std.proofs.lemmas.List.{append-nil}
use Rattle.std.specs.Result.{result_and}
use Rattle.ei_wire.specs.declared.error.NoMemory.{NoMemory}
use Rattle.ei_event.specs.declared.event.EiEvent.{EiEvent}
use Rattle.ei_promises.specs.Pair.{PairView}
use Rattle.ei_emitting.specs.Emitted.{Step}
use Rattle.ei_emit.specs.declared.step.EmitStep.{EmitStep}
use Rattle.ei_emit.specs.declared.error.EmitError.{EmitError}
use Rattle.ei_emit.specs.declared.error.EmitError.TheVariants as error
use Rattle.ei_emit.specs.Steps.{step_of, history, is_bad_step, first_bad_from, first_bad}
use Rattle.ei_emit.specs.Queued.{queue_in, GivesFront}
use Rattle.ei_emit.specs.Stands.{Script, EmitterView, emitter, StandsFor, IsStanding, Begins, PerformsOne, Performs, PlaysOne, Plays, with_step, with_given}
use Rattle.ei_emit.specs.Emits.{EmitsInPart, EmitsAll, EmitsWhole, Answers}
use Rattle.ei_emit.proofs.InOrder.{history_front, history_more, still_first, is_first, history_all, none_bad}
use Rattle.ei_emit.proofs.HandedOut.{emptied_pair, given_out}
use Rattle.ei_emit.proofs.SoFar.{script, HasEmitted, given_in_part, begun, went_on, part_on, in_part, in_whole}

-- the first steps of the script were carried out, as many as this, and none of them was bad
pub record IsSoFar {H : Type 0} (start : ℕ) (steps : List EmitStep) (place : ℕ) (told now : Option (List ℕ)) (old new : List EiEvent) (e : EmitterView H) : Type 0 where
  pub emitted : HasEmitted start (history (take place steps)) told now old new e
  pub first : first_bad_from (history (take place steps)) (drop place steps) ≡ first_bad steps

-- ---- what a step came to

played : {H : Type 0} (s : Script) (step : EmitStep) (told now : Option (List ℕ)) (new : EmitterView H) (good : Bool) → good ≡ true → Plays s step told now (Ok good) new → PlaysOne s step told now new
played s step told now new true is p = p
played s step told now new false is p = absurd cc

was_bad : {H : Type 0} (s : Script) (step : EmitStep) (told now : Option (List ℕ)) (new : EmitterView H) (good : Bool) → good ≡ false → Plays s step told now (Ok good) new → (is_bad_step s.before step ≡ true) × (now ≡ told)
was_bad s step told now new false is p = p
was_bad s step told now new true is p = absurd cc

pub performed : {H : Type 0} (s : Script) (step : EmitStep) (old new : EmitterView H) (good : Bool) → good ≡ true → Performs s step (Ok good) old new → PerformsOne s step old new
performed s step old new true is p = p
performed s step old new false is p = absurd cc

pub was_refused : {H : Type 0} (s : Script) (step : EmitStep) (old new : EmitterView H) (good : Bool) → good ≡ false → Performs s step (Ok good) old new → is_bad_step s.before step ≡ true
was_refused s step old new false is p = p
was_refused s step old new true is p = absurd cc

-- ---- an emitter that stands

-- once the first events were given, or a step was carried out and its events were given
pub stands_begun : {H : Type 0} (e : EmitterView H) (p : PairView H) → IsStanding e → p ≡ emptied_pair e.pair → IsStanding (emitter p e.seat e.devices)
stands_begun e p t is = record { script = with_given (queue_in e.pair.client) t.script; stands = given_out t.script e p t.stands is }

pub stands_on : {H : Type 0} (e left : EmitterView H) (p : PairView H) (step : EmitStep) (told now : Option (List ℕ)) (good : Bool) → IsStanding e → ((s : Script) → StandsFor s e → Plays s step told now (Ok good) left) → good ≡ true → p ≡ emptied_pair left.pair →
    IsStanding (emitter p left.seat left.devices)
stands_on e left p step told now good t plays is out =
    let one = played t.script step told now left good is (plays t.script t.stands) in
    record { script = with_given (queue_in left.pair.client) (with_step (step_of step) one.used t.script); stands = given_out (with_step (step_of step) one.used t.script) left p one.stands out }

-- ---- want of memory

-- it is said, and some of the events were given
pub answers_part : {H : Type 0} (start : ℕ) (steps : List EmitStep) (told now : Option (List ℕ)) (old new : List EiEvent) (p : PairView H) (result : Result Unit EmitError) → IsErrAnd result (λ e. e ≡ error.NoMemory) → EmitsInPart start (history steps) told old new →
    Answers start steps told now old new (result_and result (Ok p))
answers_part start steps told now old new p (Ok x) is part = absurd is
answers_part {H} start steps told now old new p (Err e) is part = subst (λ (why : EmitError). let r : Result (PairView H) EmitError = Err why in Answers start steps told now old new r) (sym is) part

-- what the steps came to is what the call answers
pub answers_so : {H : Type 0} (start : ℕ) (steps : List EmitStep) (told now : Option (List ℕ)) (old new : List EiEvent) (p left : PairView H) (played : Result Unit EmitError) (result : Result (PairView H) EmitError) → left ≡ p → result ≡ result_and played (Ok left) →
    Answers start steps told now old new (result_and played (Ok p)) → Answers start steps told now old new result
answers_so {H} start steps told now old new p left played result same is a =
    let of : PairView H → Result (PairView H) EmitError = λ q. result_and played (Ok q) in
    subst (λ (r : Result (PairView H) EmitError). Answers start steps told now old new r) (sym (is ∙ ap of same)) a

-- where memory runs out nothing is said of a step
pub plays_nothing : {H : Type 0} (s : Script) (step : EmitStep) (told now : Option (List ℕ)) (new : EmitterView H) (result : Result Bool NoMemory) → IsErr result → Plays s step told now result new
plays_nothing s step told now new (Ok x) is = absurd cc
plays_nothing s step told now new (Err e) is = tt

-- ---- the steps

-- none yet
pub is_begun : {H : Type 0} (start : ℕ) (steps : List EmitStep) (told now : Option (List ℕ)) (old new : List EiEvent) (e : EmitterView H) (p : PairView H) → Begins start told now e → p ≡ emptied_pair e.pair → new ≡ old ++ queue_in e.pair.client →
    IsSoFar start steps 0 told now old new (emitter p e.seat e.devices)
is_begun start steps told now old new e p b is grew = record { emitted = begun start told now old new e p b is grew; first = refl }

-- memory ran out before any was carried out
pub begun_in_part : {H : Type 0} (start : ℕ) (steps : List EmitStep) (told now : Option (List ℕ)) (old new : List EiEvent) (e : EmitterView H) → Begins start told now e → GivesFront (queue_in e.pair.client) old new → EmitsInPart start (history steps) told old new
begun_in_part start steps told now old new e b f =
    subst (λ (l : List Step). EmitsInPart start l told old new) (append-nil (history steps))
    (given_in_part (script start [] b.readings []) e (history steps) told now old old new b.stands b.gave (sym (append-nil old)) f)

module _ {H : Type 0} (start : ℕ) (steps : List EmitStep) (place : ℕ) (told now : Option (List ℕ)) (old new : List EiEvent) (e : EmitterView H) (h : IsSoFar start steps place told now old new e) where
  -- memory ran out before the step was carried out
  pub so_far_in_part : EmitsInPart start (history steps) told old new
  so_far_in_part =
      subst (λ (l : List Step). EmitsInPart start l told old new) (sym (history_front steps place))
      (in_part start (history (take place steps)) told now old new e h.emitted (history (drop place steps)))

  -- all were carried out
  pub all_so_far : length steps ≤ place → place ≤ length steps → Answers start steps told now old new (Ok e.pair)
  all_so_far above below =
      let end : place ≡ length steps = omega (arith, above, below) in (
        none_bad steps (first_bad steps) (subst (λ (n : ℕ). first_bad_from (history (take n steps)) (drop n steps) ≡ first_bad steps) end h.first),
        subst (λ (l : List Step). EmitsWhole start l told now old new e.pair) (ap (λ (n : ℕ). history (take n steps)) end ∙ history_all steps)
            (in_whole start (history (take place steps)) told now old new e h.emitted),
      )

  module _ (step : EmitStep) (lt : place < length steps) (item : step ≡ get_or steps place step) (later : Option (List ℕ)) (left : EmitterView H) (good : Bool) (plays : (s : Script) → StandsFor s e → Plays s step now later (Ok good) left) where
    abbrev so : Script
    so = script start (history (take place steps)) h.emitted.readings h.emitted.given

    -- the step is bad
    pub stops_at : good ≡ false → (first_bad steps ≡ Some place) × EmitsAll start (history (take place steps)) told later old new
    stops_at is =
        let bad = was_bad so step now later left good is (plays so h.emitted.stands) in (
          is_first steps place step lt item (first_bad steps) bad.0 h.first,
          subst (λ (t : Option (List ℕ)). EmitsAll start (history (take place steps)) told t old new) (sym bad.1)
              (in_whole start (history (take place steps)) told now old new e h.emitted).emits,
        )

    module _ (is : good ≡ true) (newer : List EiEvent) where
      one : PlaysOne so step now later left
      one = played so step now later left good is (plays so h.emitted.stands)

      -- it was carried out, and its events were given
      pub goes_on : (p : PairView H) → p ≡ emptied_pair left.pair → newer ≡ new ++ queue_in left.pair.client → IsSoFar start steps (place + 1) told later old newer (emitter p left.seat left.devices)
      goes_on p out grew = record {
        emitted = subst (λ (l : List Step). HasEmitted start l told later old newer (emitter p left.seat left.devices)) (sym (history_more steps place step lt item))
            (went_on start (history (take place steps)) told now old new e h.emitted step later newer left p one out grew);
        first = still_first steps place step lt item (first_bad steps) one.good h.first;
      }

      -- or the first of them
      pub stops_in_part : GivesFront (queue_in left.pair.client) new newer → EmitsInPart start (history steps) told old newer
      stops_in_part f =
          subst (λ (l : List Step). EmitsInPart start l told old newer) (
          ap (λ (l : List Step). history (drop (place + 1) steps) ++ l) (sym (history_more steps place step lt item)) ∙ sym (history_front steps (place + 1))
          ) (part_on start (history (take place steps)) told now old new e h.emitted step (history (drop (place + 1) steps)) later newer left one f)
