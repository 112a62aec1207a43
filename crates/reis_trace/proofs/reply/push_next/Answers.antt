use Rattle.std.proofs.Common.{true, subst}
use Rattle.ei_backend.specs.Backend.{Answers, Shortens, next}
use Rattle.ei_client.specs.Event.{target_of, opcode_of, values_of}
use Rattle.reis_trace.proofs.Tracing.{next_traced, none_traced}
use Rattle.reis_trace.proofs.reply.push_next.Goals as goal

pub returns-in-None : goal.returns-in-None
returns-in-None c =
    let old = c.args.client.now in
    let new = c.pending_event.new.self in
    none_traced old new c.args.lines.now.items c.requires (subst (λ x. Answers target_of opcode_of values_of x new (next true old)) c.in-None.is c.in_ok-pending_event.ensures.ok)

pub returns-in_ok-push_answer-in-Some : goal.returns-in_ok-push_answer-in-Some
returns-in_ok-push_answer-in-Some c =
    let old = c.args.client.now in
    let new = c.pending_event.new.self in
    next_traced old new c.args.lines.now.items c.push_answer.new.lines.items c.in-Some.answer c.in_ok-push_answer-in-Some.field-0 c.requires c.in_ok-push_answer-in-Some.ensures
    (subst (λ x. Answers target_of opcode_of values_of x new (next true old)) c.in-Some.is c.in_ok-pending_event.ensures.ok)
    (subst (λ x. Shortens old.unread new.unread x) c.in-Some.is c.in_ok-pending_event.ensures.shorter)
