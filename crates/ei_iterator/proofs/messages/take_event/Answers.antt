use Rattle.std.proofs.Common.{Err, refl, ap, ◌∙◌}
use Rattle.std.proofs.lemmas.Result.{err_from_is_err_and}
use Rattle.ei_types.specs.declared.error.Error.{Error}
use Rattle.ei_iterator.proofs.Stepping.{event_refused, event_taken, event_cut}
use Rattle.ei_iterator.proofs.messages.take_event.Goals as goal

-- the converter refuses it, or wants memory
pub returns-in_err-handle_event-clause-steps : goal.returns-in_err-handle_event-clause-steps
returns-in_err-handle_event-clause-steps g c = λ most old turns before ran read.
    let p = err_from_is_err_and c.from_residual.result c.from_residual.ensures.1 in
    event_refused g.H.Call.may_answer most old turns _ ran c.args.event c.args.context.now read c.handle_event.new.self _ c.from_residual.result _ c.handle_event.new.ctx (p.1 ∙ ap (λ (e : Error). Err e) p.2)
    c.in_err-handle_event.ensures.unsent c.in_err-handle_event.ensures.handles (ap (λ (k : g.row.C.Denot). (g.C.Clock.view k).left) c.in_err-handle_event.ensures.kept) c.in_err-handle_event.ensures.receipts c.in_err-handle_event.ensures.handlers

-- what answers it is not sent
pub returns-in_err-flush-clause-steps : goal.returns-in_err-flush-clause-steps
returns-in_err-flush-clause-steps g c = λ most old turns before ran read.
    let p = err_from_is_err_and c.from_residual-in_err-flush.result c.from_residual-in_err-flush.ensures.1 in
    event_cut g.H.Call.may_answer most old turns _ ran c.args.event c.args.context.now read c.handle_event.new.self _ c.in_ok-handle_event.ensures.handles c.in_ok-handle_event.ensures.receipts c.in_ok-handle_event.ensures.handlers
    c.handle_event.new.ctx c.flush.new.self c.in_ok-handle_event.ensures.sends c.in_err-flush.ensures.kept c.args.sink.now c.flush.new.sink refl c.from_residual-in_err-flush.result _ (p.1 ∙ ap (λ (e : Error). Err e) p.2) c.in_err-flush.ensures.flushes

-- it is taken and answered
pub returns-clause-steps : goal.returns-clause-steps
returns-clause-steps g c = λ most old turns before ran read.
    event_taken g.H.Call.may_answer most old turns _ ran c.args.event c.args.context.now read c.handle_event.new.self _ c.in_ok-handle_event.ensures.handles c.in_ok-handle_event.ensures.receipts c.in_ok-handle_event.ensures.handlers
    c.handle_event.new.ctx c.flush.new.self c.in_ok-handle_event.ensures.sends c.in_ok-flush.ensures.kept c.args.sink.now c.flush.new.sink refl c.in_ok-flush.ensures.flushes
