use Rattle.std.proofs.Common.{ap, Err}
use Rattle.ei_types.specs.declared.error.Error.{Error}
use Rattle.ei_serve.proofs.ShakingSteps.{brings_request, finish_at, gone, handled_at, keeps_inner, may_want, refused_keeping, unreadable}
use Rattle.ei_serve.proofs.handshaking.shake.Goals as goal

pub returns-in-Ok-None-keep-clause-shakes : goal.returns-in-Ok-None-keep-clause-shakes
returns-in-Ok-None-keep-clause-shakes c = λ setup past rest handles s.
    let f = brings_request setup past rest handles c.args.context.now c.pending_request.new.self c.args.handshaker.now c.in-Ok-Some-Request.field-0 c.in-Ok-Some-Request.field-0-0 c.in-Ok-Some-Request.request s c.in-Ok-Some-Request.field-0-is c.in-Ok-Some-Request.field-0-0-is c.in-Ok-Some-Request.ensures.ok in
    handled_at setup past rest handles c.args.context.now c.args.handshaker.now s c.pending_request.new.self c.in-Ok-Some-Request.request c.in-Ok-None-keep.field-0 c.keep.new.self f c.in-Ok-None-keep.field-0-is c.in-Ok-None-keep.ensures.keeps

pub returns-in-Ok-Some-clause-shakes : goal.returns-in-Ok-Some-clause-shakes
returns-in-Ok-Some-clause-shakes c = λ setup past rest handles s.
    let f = brings_request setup past rest handles c.args.context.now c.pending_request.new.self c.args.handshaker.now c.in-Ok-Some-Request.field-0 c.in-Ok-Some-Request.field-0-0 c.in-Ok-Some-Request.request s c.in-Ok-Some-Request.field-0-is c.in-Ok-Some-Request.field-0-0-is c.in-Ok-Some-Request.ensures.ok in
    finish_at setup past rest handles c.args.context.now c.args.handshaker.now s c.pending_request.new.self c.in-Ok-Some-Request.request c.in-Ok-Some.field-0 c.in-Ok-Some.handshake c.keep.new.self f c.in-Ok-Some.field-0-is c.in-Ok-Some.ensures.keeps

pub returns-in-Err-keep-clause-no_fault : goal.returns-in-Err-keep-clause-no_fault
returns-in-Err-keep-clause-no_fault c = rw c.refuse.ensures (keeps_inner c.args.handshaker.now c.pending_request.new.self c.keep.new.self c.in-Ok-Some-Request.request c.in-Err-keep.error c.in-Err-keep.ensures.keeps)

pub returns-in-Err-keep-clause-shakes : goal.returns-in-Err-keep-clause-shakes
returns-in-Err-keep-clause-shakes c = λ setup past rest handles s.
    let f = brings_request setup past rest handles c.args.context.now c.pending_request.new.self c.args.handshaker.now c.in-Ok-Some-Request.field-0 c.in-Ok-Some-Request.field-0-0 c.in-Ok-Some-Request.request s c.in-Ok-Some-Request.field-0-is c.in-Ok-Some-Request.field-0-0-is c.in-Ok-Some-Request.ensures.ok in
    rw c.refuse.ensures (refused_keeping setup past rest handles c.args.context.now c.args.handshaker.now s c.pending_request.new.self c.in-Ok-Some-Request.request c.in-Err-keep.error c.keep.new.self (λ q. c.in-Err-keep.ensures.memory (ap (λ (x : Error). Err x) q)) f c.in-Err-keep.ensures.keeps)

pub returns-in-Ok-Some-ParseError-clause-shakes : goal.returns-in-Ok-Some-ParseError-clause-shakes
returns-in-Ok-Some-ParseError-clause-shakes c = λ setup past rest handles s.
    rw c.refuse_parse.ensures (unreadable setup past rest handles c.args.context.now c.pending_request.new.self c.args.handshaker.now c.in-Ok-Some-ParseError.field-0 c.in-Ok-Some-ParseError.field-0-0 c.in-Ok-Some-ParseError.error s c.in-Ok-Some-ParseError.field-0-is c.in-Ok-Some-ParseError.field-0-0-is c.in-Ok-Some-ParseError.ensures.ok)

pub returns-in-Ok-Some-InvalidObject-clause-shakes : goal.returns-in-Ok-Some-InvalidObject-clause-shakes
returns-in-Ok-Some-InvalidObject-clause-shakes c = λ setup past rest handles s.
    rw c.refuse_handshake.ensures (gone setup past rest handles c.args.context.now c.pending_request.new.self c.args.handshaker.now c.in-Ok-Some-InvalidObject.field-0 c.in-Ok-Some-InvalidObject.field-0-0 c.in-Ok-Some-InvalidObject.id s c.in-Ok-Some-InvalidObject.field-0-is c.in-Ok-Some-InvalidObject.field-0-0-is c.in-Ok-Some-InvalidObject.ensures.ok)

pub returns-in-Err-clause-shakes : goal.returns-in-Err-clause-shakes
returns-in-Err-clause-shakes c = λ setup past rest handles s.
    rw c.refuse_memory.ensures (may_want setup past rest handles c.args.context.now c.args.handshaker.now s c.in-Err.ensures.memory)
