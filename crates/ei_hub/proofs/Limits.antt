-- What a turn leaves of a session, and the most pieces that it takes.
use Rattle.std.proofs.Common.{◌≡◌, ℕ, ◌+◌, ◌≤◌, inl, inr, List, [], ◌∷◌, length, true, false, Option, Some, None, Result, Ok, Err, refl, ap, sym, subst, ◌∙◌, arith}
use Rattle.std.specs.Prelude.{IsSome}
use Rattle.std.proofs.lemmas.Bool.{cases_lt}
use Rattle.std.proofs.lemmas.List.{length-append}
use Rattle.ei_spec.specs.Piece.{Piece}
use Rattle.ei_session.specs.Setup.{Setup}
use Rattle.ei_types.specs.declared.error.Error.{Error}
use Rattle.ei_serve.specs.declared.session.Ended.{Ended as HowEnded}
use Rattle.ei_serve.specs.declared.session.Turn.{Turn}
use Rattle.ei_serve.specs.declared.session.Turn.TheVariants as turn
use Rattle.ei_serve.specs.declared.state.SessionState.{SessionState}
use Rattle.ei_serve.specs.Around.{Around}
use Rattle.ei_serve.specs.EndedBy.{ended_by}
use Rattle.ei_serve.specs.Standing.{Stands, StandsForSome}
use Rattle.ei_serve.specs.Turning.{GoesOn, Turns}
use Rattle.ei_serve.proofs.BetweenTurns.{not_over}
use Rattle.ei_serve.proofs.Serves.{over_limit}
use Rattle.ei_hub.specs.Limit.{IsWithin}

-- ---- a session that stands

-- it took no more pieces than its setup has
few_taken : (setup : Setup) (pieces : List Piece) (times : List ℕ) (s : SessionState) → Stands setup pieces times s → s.taken ≤ setup.pieces
few_taken setup pieces times s stands = elim (cases_lt setup.pieces s.taken) [
  | inl lt ↦
      let g : true ≡ false = sym (over_limit setup pieces (length pieces) (omega (arith, lt, stands.taken))) ∙ stands.goes_on (length pieces) (omega (arith, lt, stands.taken)) (omega arith) in
      absurd cc
  | inr le ↦ le
]

-- its limit is that of its setup
pub is_within : (limit : ℕ) (setup : Setup) (pieces : List Piece) (times : List ℕ) (s : SessionState) → setup.pieces ≡ limit → Stands setup pieces times s → IsWithin limit s
is_within limit setup pieces times s is stands = record {
  going = not_over setup pieces times s stands;
  limit_is = ap (λ (t : Setup). t.pieces) stands.started ∙ is;
  few = subst (λ (n : ℕ). s.taken ≤ n) is (few_taken setup pieces times s stands);
}

-- ---- a turn

-- a turn behind which the session goes on is one of these
goes_on : (setup : Setup) (pieces : List Piece) (times : List ℕ) (r : Result Turn Error) (t : SessionState) (x y : Around) → ended_by r ≡ None → Turns setup pieces times r t x y → GoesOn setup pieces times t x y
goes_on setup pieces times (Ok turn.GoOn) t x y none h = h
goes_on setup pieces times (Ok turn.Disconnect) t x y none h = absurd cc
goes_on setup pieces times (Ok turn.End) t x y none h = absurd cc
goes_on setup pieces times (Err e) t x y none h = absurd cc

module _ (s t : SessionState) (r : Result Turn Error) (x y : Around) (answer : Option (Result HowEnded Error)) (by : answer ≡ ended_by r)
    (turns : (setup : Setup) (pieces : List Piece) (times : List ℕ) → Stands setup pieces times s → Turns setup pieces times r t x y) (h : StandsForSome s) (none : answer ≡ None) where
  went : GoesOn h.setup h.pieces h.times t x y
  went = goes_on h.setup h.pieces h.times r t x y (sym by ∙ none) (turns h.setup h.pieces h.times h.stands)

  -- it takes as many pieces at most as before
  pub within_still : (limit : ℕ) → IsWithin limit s → IsWithin limit t
  within_still limit w =
      let limit_is : h.setup.pieces ≡ limit = sym (ap (λ (u : Setup). u.pieces) h.stands.started) ∙ w.limit_is in
      is_within limit h.setup _ _ t limit_is went.stands

  -- it took one piece more
  pub one_more : t.taken ≡ s.taken + 1
  one_more = went.stands.taken ∙ length-append h.pieces (went.piece ∷ []) ∙ ap (λ (n : ℕ). n + 1) (sym h.stands.taken)

-- an end is none, or there is one
pub has_end : {A : Type 0} (answer : Option A) → (answer ≡ None → ⊥) → IsSome answer
has_end None never = absurd (never refl)
has_end (Some a) never = refl
