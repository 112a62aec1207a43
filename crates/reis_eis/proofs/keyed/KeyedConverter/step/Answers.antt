use Rattle.std.proofs.Common.{Some, ap, ◌∙◌}
use Rattle.ei_backend.specs.declared.message.PendingRequestResult.{PendingRequestResult}
use Rattle.ei_server.specs.declared.request.Request.{Request}
use Rattle.reis_eis.proofs.Conversing.{waits, asked, unlawful, untold}
use Rattle.reis_eis.proofs.keyed.KeyedConverter.step.Goals as goal

pub returns-in-Ok-None-clause-steps : goal.returns-in-Ok-None-clause-steps
returns-in-Ok-None-clause-steps c =
    rw (← c.self.view_is) (waits c.args.time c.self.inside.converter _ _ c.pending_request.new.self c.handle_mut.ensures.value c.context_mut.ensures.value c.in-Ok-None.field-0 c.in-Ok-None.ensures.ok c.in-Ok-None.field-0-is)

pub returns-in-Ok-Some-Request-clause-steps : goal.returns-in-Ok-Some-Request-clause-steps
returns-in-Ok-Some-Request-clause-steps c =
    rw (← c.self.view_is) (asked c.args.time c.self.inside.converter _ _ c.pending_request.new.self c.handle_mut.ensures.value c.context_mut.ensures.value c.in-Ok-Some-Request.field-0 c.in-Ok-Some-Request.ensures.ok c.in-Ok-Some-Request.request
    (c.in-Ok-Some-Request.field-0-is ∙ ap (λ (x : PendingRequestResult Request). Some x) c.in-Ok-Some-Request.field-0-0-is) c.obey.result c.obey.new.self c.obey.ensures.obeys)

pub returns-in-Ok-Some-ParseError-clause-steps : goal.returns-in-Ok-Some-ParseError-clause-steps
returns-in-Ok-Some-ParseError-clause-steps c =
    rw (← c.self.view_is) (unlawful c.args.time c.self.inside.converter _ _ c.pending_request.new.self c.handle_mut.ensures.value c.context_mut.ensures.value c.in-Ok-Some-ParseError.field-0 c.in-Ok-Some-ParseError.ensures.ok c.in-Ok-Some-ParseError.error
    (c.in-Ok-Some-ParseError.field-0-is ∙ ap (λ (x : PendingRequestResult Request). Some x) c.in-Ok-Some-ParseError.field-0-0-is))

pub returns-in-Ok-Some-InvalidObject-clause-steps : goal.returns-in-Ok-Some-InvalidObject-clause-steps
returns-in-Ok-Some-InvalidObject-clause-steps c =
    rw (← c.self.view_is) (untold c.args.time c.self.inside.converter _ _ c.pending_request.new.self c.handle_mut.ensures.value c.context_mut.ensures.value c.in-Ok-Some-InvalidObject.field-0 c.in-Ok-Some-InvalidObject.ensures.ok c.in-Ok-Some-InvalidObject.id
    (c.in-Ok-Some-InvalidObject.field-0-is ∙ ap (λ (x : PendingRequestResult Request). Some x) c.in-Ok-Some-InvalidObject.field-0-0-is) c.tell_no_object.result c.tell_no_object.new.self c.tell_no_object.ensures.tells)
