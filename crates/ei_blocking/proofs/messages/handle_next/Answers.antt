use Rattle.std.proofs.Common.{true, Option, Some, None, Ok, refl, subst}
use Rattle.std.proofs.lemmas.Result.{err_from_is_err_and}
use Rattle.ei_backend.specs.declared.message.PendingRequestResult.{PendingRequestResult}
use Rattle.ei_backend.specs.Backend.{Answers, Brings, next}
use Rattle.ei_client.specs.declared.event.Event.{Event}
use Rattle.ei_client.specs.Event.{target_of, opcode_of, values_of, announced_of}
use Rattle.ei_handshake.specs.Client.{HandlesEvent}
use Rattle.ei_handshake.specs.declared.client.HandshakeResp.{HandshakeResp}
use Rattle.ei_blocking.proofs.Stepping.{wants_front, waits_so, unread_so, front_event, event_fails, event_handled, cuts, handled_on, handled_last}
use Rattle.ei_blocking.proofs.messages.handle_next.Goals as goal

pub returns-in_err-pending-clause-steps : goal.returns-in_err-pending-clause-steps
returns-in_err-pending-clause-steps g c = λ greeter b past before s sent.
    let p = err_from_is_err_and c.from_residual.result c.from_residual.ensures.1 in
    rw (p.1, p.2) (wants_front greeter b past _ before _ _ _ c.in_err-pending.ensures.err s sent)

pub returns-in_default-clause-steps : goal.returns-in_default-clause-steps
returns-in_default-clause-steps g c = λ greeter b past before s sent.
    waits_so greeter b past _ before _ _ _ s sent (subst (λ (o : Option (PendingRequestResult Event)). Answers target_of opcode_of values_of o c.pending_event.new.self (next true c.args.ctx.now)) c.in_default.is c.in_ok-pending.ensures.ok)

pub returns-in_err-event-clause-steps : goal.returns-in_err-event-clause-steps
returns-in_err-event-clause-steps g c = λ greeter b past before s sent.
    let p = err_from_is_err_and c.from_residual-in_err-event.result c.from_residual-in_err-event.ensures.1 in
    rw (p.1, p.2) (unread_so greeter b past _ _ before _ _ _ c.in-Some.pending _ _ _
    (subst (λ (o : Option (PendingRequestResult Event)). Answers target_of opcode_of values_of o c.pending_event.new.self (next true c.args.ctx.now)) c.in-Some.is c.in_ok-pending.ensures.ok)
    c.request_result.ensures c.in_err-event.was refl s sent)

pub returns-in_err-answer-clause-steps : goal.returns-in_err-answer-clause-steps
returns-in_err-answer-clause-steps g c = λ greeter b past before s sent.
    let p = err_from_is_err_and c.from_residual-in_err-answer.result c.from_residual-in_err-answer.ensures.1 in
    let f = front_event c.args.ctx.now c.pending_event.new.self c.in-Some.pending _ c.in_ok-event.event
    (subst (λ (o : Option (PendingRequestResult Event)). Answers target_of opcode_of values_of o c.pending_event.new.self (next true c.args.ctx.now)) c.in-Some.is c.in_ok-pending.ensures.ok)
    (subst (λ (o : Option (PendingRequestResult Event)). Brings announced_of o c.args.ctx.now.table c.pending_event.new.self.table) c.in-Some.is c.in_ok-pending.ensures.announced)
    c.request_result.ensures c.in_ok-event.was in
    rw (p.1, p.2) (event_fails greeter b past _ before _ _ _ s sent c.in_ok-event.event _ _ _ _ f.is f.table c.in_err-answer.ensures.handles refl)

pub returns-in_err-flush-clause-steps : goal.returns-in_err-flush-clause-steps
returns-in_err-flush-clause-steps g c = λ greeter b past before s sent.
    let p = err_from_is_err_and c.from_residual-in_err-flush.result c.from_residual-in_err-flush.ensures.1 in
    let f = front_event c.args.ctx.now c.pending_event.new.self c.in-Some.pending _ c.in_ok-event.event
    (subst (λ (o : Option (PendingRequestResult Event)). Answers target_of opcode_of values_of o c.pending_event.new.self (next true c.args.ctx.now)) c.in-Some.is c.in_ok-pending.ensures.ok)
    (subst (λ (o : Option (PendingRequestResult Event)). Brings announced_of o c.args.ctx.now.table c.pending_event.new.self.table) c.in-Some.is c.in_ok-pending.ensures.announced)
    c.request_result.ensures c.in_ok-event.was in
    rw (p.1, p.2) (cuts greeter b past _ before _ _ _ _ s sent _ _ c.flush.new.self c.in_ok-answer.answer _ _
    (event_handled greeter b past _ before _ _ _ s sent c.in_ok-event.event c.in_ok-answer.answer _ _ f.is f.table c.in_ok-answer.ensures.handles)
    c.in_err-flush.ensures.flushes c.in_err-flush.ensures.kept refl)

pub returns-in-Some-answer-clause-steps : goal.returns-in-Some-answer-clause-steps
returns-in-Some-answer-clause-steps g c = λ greeter b past before s sent.
    let f = front_event c.args.ctx.now c.pending_event.new.self c.in-Some.pending _ c.in_ok-event.event
    (subst (λ (o : Option (PendingRequestResult Event)). Answers target_of opcode_of values_of o c.pending_event.new.self (next true c.args.ctx.now)) c.in-Some.is c.in_ok-pending.ensures.ok)
    (subst (λ (o : Option (PendingRequestResult Event)). Brings announced_of o c.args.ctx.now.table c.pending_event.new.self.table) c.in-Some.is c.in_ok-pending.ensures.announced)
    c.request_result.ensures c.in_ok-event.was in
    handled_last greeter b past _ before _ _ _ _ s sent _ _ c.flush.new.self c.in-Some-answer.resp
    (event_handled greeter b past _ before _ _ _ s sent c.in_ok-event.event (Some c.in-Some-answer.resp) _ _ f.is f.table
    (subst (λ (o : Option HandshakeResp). HandlesEvent c.args.handshaker.now c.pending_event.new.self c.in_ok-event.event (Ok o) c.handle_event.new.self c.handle_event.new.ctx) c.in-Some-answer.is c.in_ok-answer.ensures.handles))
    c.in_ok-flush.ensures.flushes c.in_ok-flush.ensures.kept

pub returns-in-None-clause-steps : goal.returns-in-None-clause-steps
returns-in-None-clause-steps g c = λ greeter b past before s sent.
    let f = front_event c.args.ctx.now c.pending_event.new.self c.in-Some.pending _ c.in_ok-event.event
    (subst (λ (o : Option (PendingRequestResult Event)). Answers target_of opcode_of values_of o c.pending_event.new.self (next true c.args.ctx.now)) c.in-Some.is c.in_ok-pending.ensures.ok)
    (subst (λ (o : Option (PendingRequestResult Event)). Brings announced_of o c.args.ctx.now.table c.pending_event.new.self.table) c.in-Some.is c.in_ok-pending.ensures.announced)
    c.request_result.ensures c.in_ok-event.was in
    handled_on greeter b past _ before _ _ _ _ s sent _ _ c.flush.new.self
    (event_handled greeter b past _ before _ _ _ s sent c.in_ok-event.event None _ _ f.is f.table
    (subst (λ (o : Option HandshakeResp). HandlesEvent c.args.handshaker.now c.pending_event.new.self c.in_ok-event.event (Ok o) c.handle_event.new.self c.handle_event.new.ctx) c.in-None.is c.in_ok-answer.ensures.handles))
    c.in_ok-flush.ensures.flushes c.in_ok-flush.ensures.kept
