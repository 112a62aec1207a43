use Rattle.std.proofs.Common.{Err, refl}
use Rattle.ei_serve.specs.declared.phase.Phase.TheVariants.{Over}
use Rattle.ei_serve.proofs.ConversingFront.{no_memory, may_want, refused, asked, untold, tells, cut}
use Rattle.ei_serve.proofs.connected.converse.Goals as goal

pub returns-in-Ok-Some-Request-clause-converses : goal.returns-in-Ok-Some-Request-clause-converses
returns-in-Ok-Some-Request-clause-converses g c = λ setup past times rest handles stands.
    c.take_request.ensures.takes setup past times rest handles
    (asked setup past times rest handles c.args.converter.now _ _ c.pending_request.new.self stands c.handle_mut.ensures.value c.context_mut.ensures.value c.in-Ok-Some-Request.field-0 c.in-Ok-Some-Request.field-0-0 c.in-Ok-Some-Request.field-0-is c.in-Ok-Some-Request.ensures.ok c.in-Ok-Some-Request.request c.in-Ok-Some-Request.field-0-0-is c.in-Ok-Some-Request.ensures.announced _ refl)

pub returns-in-Ok-Some-ParseError-clause-converses : goal.returns-in-Ok-Some-ParseError-clause-converses
returns-in-Ok-Some-ParseError-clause-converses g c = λ setup past times rest handles stands.
    rw c.refuse_parse.ensures (refused setup past times rest handles c.args.converter.now _ _ c.pending_request.new.self stands c.handle_mut.ensures.value c.context_mut.ensures.value c.in-Ok-Some-ParseError.field-0 c.in-Ok-Some-ParseError.field-0-0 c.in-Ok-Some-ParseError.field-0-is c.in-Ok-Some-ParseError.ensures.ok c.in-Ok-Some-ParseError.error c.in-Ok-Some-ParseError.field-0-0-is Over _)

pub returns-in-Err-invalid_object-clause-converses : goal.returns-in-Err-invalid_object-clause-converses
returns-in-Err-invalid_object-clause-converses g c = λ setup past times rest handles stands.
    untold setup past times rest handles c.args.converter.now _ _ c.pending_request.new.self stands c.handle_mut.ensures.value c.context_mut.ensures.value c.in-Ok-Some-InvalidObject.field-0 c.in-Ok-Some-InvalidObject.field-0-0 c.in-Ok-Some-InvalidObject.field-0-is c.in-Ok-Some-InvalidObject.ensures.ok c.in-Ok-Some-InvalidObject.id c.in-Ok-Some-InvalidObject.field-0-0-is
    _ refl _ c.handle_mut-handle.ensures.value _ _ c.in-Err-invalid_object.error c.refuse_send.new.why Over _ (Err c.refuse_send.new.why) c.in-Err-invalid_object.ensures.sends.only refl c.refuse_send.ensures

pub returns-in-Err-flush-clause-converses : goal.returns-in-Err-flush-clause-converses
returns-in-Err-flush-clause-converses g c = λ setup past times rest handles stands.
    cut setup past times rest handles c.args.converter.now _ _ c.pending_request.new.self stands c.handle_mut.ensures.value c.context_mut.ensures.value c.in-Ok-Some-InvalidObject.field-0 c.in-Ok-Some-InvalidObject.field-0-0 c.in-Ok-Some-InvalidObject.field-0-is c.in-Ok-Some-InvalidObject.ensures.ok c.in-Ok-Some-InvalidObject.id c.in-Ok-Some-InvalidObject.field-0-0-is
    _ refl _ c.handle_mut-handle.ensures.value _ _ _ c.in_default.ensures.sends.ok _ c.in-Err-flush.error c.refuse_flush.new.why Over _ _ (Err c.refuse_flush.new.why) refl c.refuse_flush.ensures c.in-Err-flush.ensures.flushes.lent.want c.in-Err-flush.ensures.flushes.went

pub returns-in_default-flush-clause-converses : goal.returns-in_default-flush-clause-converses
returns-in_default-flush-clause-converses g c = λ setup past times rest handles stands.
    tells setup past times rest handles c.args.converter.now _ _ c.pending_request.new.self stands c.handle_mut.ensures.value c.context_mut.ensures.value c.in-Ok-Some-InvalidObject.field-0 c.in-Ok-Some-InvalidObject.field-0-0 c.in-Ok-Some-InvalidObject.field-0-is c.in-Ok-Some-InvalidObject.ensures.ok c.in-Ok-Some-InvalidObject.id c.in-Ok-Some-InvalidObject.field-0-0-is
    _ refl _ c.handle_mut-handle.ensures.value _ _ _ c.in_default.ensures.sends.ok _ c.in_default-flush.ensures.flushes.stops c.in_default-flush.ensures.kept _ _ c.in_default-flush.ensures.flushes.went c.in_default-flush.ensures.flushes.lent.lent.write_wants _ refl

pub returns-in-Err-clause-converses : goal.returns-in-Err-clause-converses
returns-in-Err-clause-converses g c = λ setup past times rest handles stands.
    no_memory setup past times rest handles Over c.refuse_memory.new.why _ (Err c.refuse_memory.new.why) refl c.refuse_memory.ensures
    (may_want setup past times rest handles c.args.converter.now _ _ c.pending_request.new.self stands c.handle_mut.ensures.value c.context_mut.ensures.value c.in-Err.ensures.memory)
