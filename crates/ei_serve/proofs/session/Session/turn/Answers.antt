use Rattle.std.proofs.Common.{inr, subst, sym, ◌∙◌}
use Rattle.ei_backend.proofs.Lending.{source_as}
use Rattle.ei_serve.specs.declared.state.SessionState.{SessionState}
use Rattle.ei_serve.specs.Standing.{Stands, StandsForSome, IsOver}
use Rattle.ei_serve.proofs.BetweenTurns.{stands_for_some, stands_after, over_exactly, holds_little}
use Rattle.ei_serve.proofs.Turns.{over_now}
use Rattle.ei_serve.proofs.session.Session.turn.Goals as goal

pub invariant_of-self : goal.invariant_of-self
invariant_of-self g c = inr (stands_after c.self.inside.state c.answer-answer.new.self c.self.invariant (λ h. c.requires.going (subst (λ (s : SessionState). IsOver s) c.self.view_is h)) c.answer-answer.result _ _
    (λ setup pieces times s. c.answer-answer.ensures.turns setup pieces times _ _ _ s (c.take_piece-came.ensures.takes setup pieces times s)) (sym c.goes_on.ensures ∙ c.if-goes_on.true))

pub returns-then-goes_on-clause-stood : goal.returns-then-goes_on-clause-stood
returns-then-goes_on-clause-stood g c = subst (λ (x : SessionState). StandsForSome x) c.self.view_is
    (stands_for_some c.self.inside.state c.self.invariant (λ h. c.requires.going (subst (λ (s : SessionState). IsOver s) c.self.view_is h)))

pub returns-then-goes_on-clause-turns : goal.returns-then-goes_on-clause-turns
returns-then-goes_on-clause-turns g c = λ setup pieces times s.
    let stands = subst (λ (x : SessionState). Stands setup pieces times x) (sym c.self.view_is) s in
    c.answer-answer.ensures.turns setup pieces times _ _ _ stands (c.take_piece-came.ensures.takes setup pieces times stands)

pub returns-then-goes_on-clause-over : goal.returns-then-goes_on-clause-over
returns-then-goes_on-clause-over g c = over_exactly c.answer-answer.result c.answer-answer.new.self (sym c.goes_on.ensures ∙ c.if-goes_on.true)
    (stands_after c.self.inside.state c.answer-answer.new.self c.self.invariant (λ h. c.requires.going (subst (λ (s : SessionState). IsOver s) c.self.view_is h)) c.answer-answer.result _ _
    (λ setup pieces times s. c.answer-answer.ensures.turns setup pieces times _ _ _ s (c.take_piece-came.ensures.takes setup pieces times s)) (sym c.goes_on.ensures ∙ c.if-goes_on.true))

pub returns-then-goes_on-clause-little : goal.returns-then-goes_on-clause-little
returns-then-goes_on-clause-little g c = holds_little c.answer-answer.new.self (inr (stands_after c.self.inside.state c.answer-answer.new.self c.self.invariant (λ h. c.requires.going (subst (λ (s : SessionState). IsOver s) c.self.view_is h)) c.answer-answer.result _ _
    (λ setup pieces times s. c.answer-answer.ensures.turns setup pieces times _ _ _ s (c.take_piece-came.ensures.takes setup pieces times s)) (sym c.goes_on.ensures ∙ c.if-goes_on.true)))

pub returns-clause-stood : goal.returns-clause-stood
returns-clause-stood g c = subst (λ (x : SessionState). StandsForSome x) c.self.view_is
    (stands_for_some c.self.inside.state c.self.invariant (λ h. c.requires.going (subst (λ (s : SessionState). IsOver s) c.self.view_is h)))

pub returns-clause-turns : goal.returns-clause-turns
returns-clause-turns g c = λ setup pieces times s.
    let stands = subst (λ (x : SessionState). Stands setup pieces times x) (sym c.self.view_is) s in
    rw c.end.ensures (over_now setup pieces times _ c.answer-answer.new.self _ _ _ (sym c.goes_on.ensures ∙ c.if-goes_on.false) (c.answer-answer.ensures.turns setup pieces times _ _ _ stands (c.take_piece-came.ensures.takes setup pieces times stands)))

pub returns-clause-source : goal.returns-clause-source
returns-clause-source g c =
    let b = stands_for_some c.self.inside.state c.self.invariant (λ h. c.requires.going (subst (λ (s : SessionState). IsOver s) c.self.view_is h)) in
    source_as c.answer-answer.ensures.read_fault.1 c.answer-answer.ensures.read_fault.0
    (λ at_end. (b, c.answer-answer.ensures.ends b.setup b.pieces b.times _ _ _ b.stands (c.take_piece-came.ensures.takes b.setup b.pieces b.times b.stands) at_end)) c.take_piece-came.ensures.source
