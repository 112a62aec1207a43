use Rattle.std.proofs.Common.{◌∙◌, ◌++◌, ap, Err, refl}
use Rattle.std.proofs.lemmas.Result.{err_from_is_err_and}
use Rattle.ei_types.specs.declared.error.Error.{Error}
use Rattle.ei_session.specs.Served.{accepted, reading_of}
use Rattle.ei_spec.specs.Piece.{stream}
use Rattle.ei_serve.specs.Around.{around, no_source}
use Rattle.ei_serve.specs.Standing.{terms_of}
use Rattle.ei_serve.proofs.Turns.{refused_as, found_end, handled, no_end_handled, with_setup}
use Rattle.ei_serve.proofs.state.SessionState.answer.Goals as goal

pub returns-in_err-came-clause-turns : goal.returns-in_err-came-clause-turns
returns-in_err-came-clause-turns g c = λ setup pieces times before source source_new s took.
    let p = err_from_is_err_and c.from_residual.result c.from_residual.ensures.1 in
    refused_as setup pieces times source source_new c.args.out.now.items _ _ before c.args.self.now c.args.self.now _ _ (p.1 ∙ ap (λ (e : Error). Err e) p.2) s (rw c.in_err-came.was at took)

pub returns-then-not-branch-clause-turns : goal.returns-then-not-branch-clause-turns
returns-then-not-branch-clause-turns g c = λ setup pieces times before source source_new s took.
    let t = rw (c.in_ok-came.was, c.if-not-branch.true) at took in
    found_end setup pieces times source source_new c.args.out.now.items _ _ c.args.self.now c.is_connected.result _ c.at_end.ensures (c.is_connected.ensures setup (accepted setup (stream pieces)) times (reading_of setup (stream pieces)).rest t.1.unread t.1.phase) t

pub returns-clause-turns : goal.returns-clause-turns
returns-clause-turns g c = λ setup pieces times before source source_new s took.
    let t = rw (c.in_ok-came.was, c.if-not-branch.false) at took in
    let h = with_setup setup c.args.self.now.start.terms _ _ _ _ _ _ _ _ t.2.started (c.handle_messages.ensures.handles (accepted setup (stream pieces)) times ((reading_of setup (stream pieces)).rest ++ t.0.bytes) t.2.unread (rw t.2.started t.2.phase)) in
    handled setup pieces times before c.args.self.now _ t.0 s t.2 source source_new t.1 (around no_source c.args.out.now.items _ _) (around no_source _ _ _) c.handle_messages.result refl refl h

pub returns-clause-ends : goal.returns-clause-ends
returns-clause-ends g c = λ setup pieces times before source source_new s took at.
    let t = rw (c.in_ok-came.was, c.if-not-branch.false) at took in
    no_end_handled (terms_of c.args.self.now.start.terms) _ _ _ _ _ _ _ _ _ (c.handle_messages.ensures.handles (accepted setup (stream pieces)) times ((reading_of setup (stream pieces)).rest ++ t.0.bytes) t.2.unread (rw t.2.started t.2.phase)) at
