use Rattle.std.proofs.Common.{Some, Err, ap, ◌∙◌}
use Rattle.std.proofs.lemmas.Result.{err_from_is_err_and}
use Rattle.ei_types.specs.declared.error.Error.{Error}
use Rattle.ei_backend.specs.declared.message.PendingRequestResult.{PendingRequestResult}
use Rattle.ei_client.specs.declared.event.Event.{Event}
use Rattle.ei_iterator.proofs.AllWhole.{answer_is, front_wanted, front_waits, front_skipped, front_unread}
use Rattle.ei_iterator.proofs.messages.take_next.Goals as goal

pub returns-in_err-pending-clause-steps : goal.returns-in_err-pending-clause-steps
returns-in_err-pending-clause-steps g c = λ most old turns ran.
    let p = err_from_is_err_and c.from_residual.result c.from_residual.ensures.1 in
    front_wanted g.H.Call.may_answer most old turns _ ran c.pending_event.new.self c.from_residual.result c.in_err-pending.ensures.err (p.1 ∙ ap (λ (e : Error). Err e) p.2)

pub returns-in_default-clause-steps : goal.returns-in_default-clause-steps
returns-in_default-clause-steps g c = λ most old turns ran.
    front_waits g.H.Call.may_answer most old turns _ ran _ c.pending_event.new.self c.in_default.is c.in_ok-pending.ensures.ok

pub returns-in-Request-clause-steps : goal.returns-in-Request-clause-steps
returns-in-Request-clause-steps g c = λ most old turns ran.
    c.take_event.ensures.steps most old turns c.args.context.now ran
    (answer_is _ _ c.args.context.now c.pending_event.new.self (c.in-Some.is ∙ ap (λ (q : PendingRequestResult Event). Some q) c.in-Request.is) c.in_ok-pending.ensures.ok)

pub returns-in-InvalidObject-clause-steps : goal.returns-in-InvalidObject-clause-steps
returns-in-InvalidObject-clause-steps g c = λ most old turns ran.
    front_skipped g.H.Call.may_answer most old turns _ ran _ c.in-Some.pending _ c.pending_event.new.self c.in-Some.is c.in-InvalidObject.is c.in_ok-pending.ensures.ok

pub returns-in-ParseError-clause-steps : goal.returns-in-ParseError-clause-steps
returns-in-ParseError-clause-steps g c = λ most old turns ran.
    front_unread g.H.Call.may_answer most old turns _ ran _ c.in-Some.pending _ c.pending_event.new.self _ c.in-Some.is c.in-ParseError.is (ap (λ (e : Error). Err e) c.from.ensures) c.in_ok-pending.ensures.ok
