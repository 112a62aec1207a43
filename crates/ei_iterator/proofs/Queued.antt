-- What is queued comes first, and a call takes no more pieces than it may.
use Rattle.std.proofs.Common.{◌≡◌, ◌≤◌, ℕ, List, [], ◌∷◌, length, refl, ap, sym, subst, ◌∙◌, arith}
use Rattle.std.proofs.lemmas.List.{length-append}
use Rattle.ei_spec.specs.Piece.{Piece}
use Rattle.ei_event.specs.declared.event.EiEvent.{EiEvent}
use Rattle.ei_iterator.specs.Turns.{Standing, Turn, Comes as Came, Skips, Hears, standing_at, pieces_of, AreTurns}
use Rattle.ei_iterator.specs.Next.{Answer, Gives, Ends, PieceLimit, HandleLimit, Fails, Next, NextOver, Comes}

module _ {H : Type 0} (most : ℕ) (s : Standing H) where
  -- ---- the pieces

  pub at_most : (turns : List Turn) → AreTurns most s turns → length (pieces_of turns) ≤ most
  at_most [] h = omega arith
  at_most (Came piece ∷ before) h = omega (arith, h.2.1, length-append (pieces_of before) (piece ∷ []))
  at_most (Skips ∷ before) h = at_most before h.1
  at_most (Hears e time ∷ before) h = at_most before h.1

  -- ---- the queue

  module _ (event : EiEvent) (others : List EiEvent) (queue : s.kept.queue ≡ event ∷ others) where
    no_turn : (turns : List Turn) → AreTurns most s turns → turns ≡ []
    no_turn [] h = refl
    no_turn (t ∷ before) h = absurd (let no : ◌≡◌ {A = List EiEvent} (event ∷ others) [] = sym queue ∙ h.0 in cc)

    none_empty : {P : Type 0} → s.kept.queue ≡ [] → P
    none_empty e = absurd (let no : ◌≡◌ {A = List EiEvent} (event ∷ others) [] = sym queue ∙ e in cc)

    by_answer : (more : List Piece) (answer : Answer) (left : Standing H) (taken : ℕ) → Comes most [] s more answer left taken → answer ≡ Gives event
    by_answer more (Gives e) left taken h =
        let both : ◌≡◌ {A = List EiEvent} (event ∷ others) (e ∷ h.1.others) = sym queue ∙ h.1.queue in
        let same : event ≡ e = cc in
        ap Gives (sym same)
    by_answer more Ends left taken h = none_empty h.0.1
    by_answer more PieceLimit left taken h = none_empty h.0.1
    by_answer more HandleLimit left taken h = none_empty h.0.1
    by_answer more (Fails trouble) left taken h = none_empty (h.0 refl)

    pub queued_first : (pieces : List Piece) (turns : List Turn) (n : Next H) → NextOver most s pieces turns n → n.answer ≡ Gives event
    queued_first pieces turns n h =
        by_answer h.more n.answer n.left n.taken (subst (λ (l : List Turn). Comes most l (standing_at s l) h.more n.answer n.left n.taken) (no_turn turns h.turns_are) h.comes)
