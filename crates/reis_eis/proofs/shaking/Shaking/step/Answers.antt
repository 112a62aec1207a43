use Rattle.std.proofs.Common.{◌≡◌, Option, Some, Result, Ok, refl, sym, ap, subst, ◌∙◌, inl, inr}
use Rattle.ei_types.specs.declared.error.Error.{Error}
use Rattle.ei_backend.specs.Backend.{BackendView}
use Rattle.ei_backend.specs.declared.message.PendingRequestResult.{PendingRequestResult}
use Rattle.ei_backend.specs.declared.message.PendingRequestResult.TheVariants as pending
use Rattle.ei_handshake.specs.declared.server.EisHandshakeResp.{EisHandshakeResp}
use Rattle.ei_server.specs.declared.request.Request.{Request}
use Rattle.reis_eis.specs.declared.shaking.Shaken.{Shaken}
use Rattle.reis_eis.specs.declared.shaking.Shaken.TheVariants as shaken
use Rattle.reis_eis.specs.declared.step.Step.TheVariants as step
use Rattle.reis_eis.specs.Words.{shaking_with}
use Rattle.reis_eis.specs.Handling.{ShakesRead, shaken_by, IsGone}
use Rattle.reis_eis.proofs.HandshakeRead.{unread_stays, taken_out, shorter_then}
use Rattle.reis_eis.proofs.shaking.Shaking.step.Goals as goal

pub returns-in-Ok-None-clause-shakes : goal.returns-in-Ok-None-clause-shakes
returns-in-Ok-None-clause-shakes c =
    let h = shaking_with c.args.self.now c.pending_request.new.self in
    inl (record {
      said = c.in-Ok-None.field-0;
      ctx = c.pending_request.new.self;
      reads = c.in-Ok-None.ensures.ok;
      does = subst (λ (o : Option (PendingRequestResult Request)). ShakesRead h o (shaken.Still step.Waiting) h) (sym c.in-Ok-None.field-0-is) (refl, refl);
    })

pub returns-in-Ok-None-clause-shorter : goal.returns-in-Ok-None-clause-shorter
returns-in-Ok-None-clause-shorter c = λ gone. absurd gone

pub returns-in-Ok-None-handle_request-clause-shakes : goal.returns-in-Ok-None-handle_request-clause-shakes
returns-in-Ok-None-handle_request-clause-shakes c =
    let h = shaking_with c.args.self.now c.pending_request.new.self in
    let came : c.in-Ok-Some-Request.field-0 ≡ Some (pending.Request c.in-Ok-Some-Request.request) =
    c.in-Ok-Some-Request.field-0-is ∙ ap (λ (x : PendingRequestResult Request). Some x) c.in-Ok-Some-Request.field-0-0-is in
    inl (record {
      said = c.in-Ok-Some-Request.field-0;
      ctx = c.pending_request.new.self;
      reads = c.in-Ok-Some-Request.ensures.ok;
      does = subst (λ (o : Option (PendingRequestResult Request)). ShakesRead h o (shaken.Still step.Handled)
          (record { context = c.handle_request.new.ctx; handshaker = c.handle_request.new.self; initial_serial = c.args.self.now.initial_serial })) (sym came) (record {
            answer = c.handle_request.result;
            handles = c.handle_request.ensures.handles;
            shaken = sym (ap (λ (x : Result (Option EisHandshakeResp) Error). shaken_by x) (c.in-Ok-None-handle_request.is ∙ ap (λ (x : Option EisHandshakeResp). Ok x) c.in-Ok-None-handle_request.field-0-is));
            serial = refl;
          });
    })

pub returns-in-Ok-None-handle_request-clause-shorter : goal.returns-in-Ok-None-handle_request-clause-shorter
returns-in-Ok-None-handle_request-clause-shorter c = λ gone.
    let came : c.in-Ok-Some-Request.field-0 ≡ Some (pending.Request c.in-Ok-Some-Request.request) =
    c.in-Ok-Some-Request.field-0-is ∙ ap (λ (x : PendingRequestResult Request). Some x) c.in-Ok-Some-Request.field-0-0-is in
    shorter_then _ c.pending_request.new.self.unread _ (taken_out _ _ _ c.in-Ok-Some-Request.request came c.in-Ok-Some-Request.ensures.shorter)
    (unread_stays c.args.self.now.handshaker c.pending_request.new.self c.in-Ok-Some-Request.request c.in-Ok-None-handle_request.field-0 c.handle_request.new.self c.handle_request.new.ctx c.in-Ok-None-handle_request.ensures.handles)

pub returns-in-Ok-Some-clause-shakes : goal.returns-in-Ok-Some-clause-shakes
returns-in-Ok-Some-clause-shakes c =
    let h = shaking_with c.args.self.now c.pending_request.new.self in
    let came : c.in-Ok-Some-Request.field-0 ≡ Some (pending.Request c.in-Ok-Some-Request.request) =
    c.in-Ok-Some-Request.field-0-is ∙ ap (λ (x : PendingRequestResult Request). Some x) c.in-Ok-Some-Request.field-0-0-is in
    inl (record {
      said = c.in-Ok-Some-Request.field-0;
      ctx = c.pending_request.new.self;
      reads = c.in-Ok-Some-Request.ensures.ok;
      does = subst (λ (o : Option (PendingRequestResult Request)). ShakesRead h o (shaken.Done c.in-Ok-Some.resp)
          (record { context = c.handle_request.new.ctx; handshaker = c.handle_request.new.self; initial_serial = c.args.self.now.initial_serial })) (sym came) (record {
            answer = c.handle_request.result;
            handles = c.handle_request.ensures.handles;
            shaken = sym (ap (λ (x : Result (Option EisHandshakeResp) Error). shaken_by x) (c.in-Ok-Some.is ∙ ap (λ (x : Option EisHandshakeResp). Ok x) c.in-Ok-Some.field-0-is));
            serial = refl;
          });
    })

pub returns-in-Ok-Some-clause-shorter : goal.returns-in-Ok-Some-clause-shorter
returns-in-Ok-Some-clause-shorter c = λ gone.
    let came : c.in-Ok-Some-Request.field-0 ≡ Some (pending.Request c.in-Ok-Some-Request.request) =
    c.in-Ok-Some-Request.field-0-is ∙ ap (λ (x : PendingRequestResult Request). Some x) c.in-Ok-Some-Request.field-0-0-is in
    shorter_then _ c.pending_request.new.self.unread _ (taken_out _ _ _ c.in-Ok-Some-Request.request came c.in-Ok-Some-Request.ensures.shorter)
    (unread_stays c.args.self.now.handshaker c.pending_request.new.self c.in-Ok-Some-Request.request c.in-Ok-Some.field-0 c.handle_request.new.self c.handle_request.new.ctx c.in-Ok-Some.ensures.handles)

pub returns-in-Err-handle_request-clause-shakes : goal.returns-in-Err-handle_request-clause-shakes
returns-in-Err-handle_request-clause-shakes c =
    let h = shaking_with c.args.self.now c.pending_request.new.self in
    let came : c.in-Ok-Some-Request.field-0 ≡ Some (pending.Request c.in-Ok-Some-Request.request) =
    c.in-Ok-Some-Request.field-0-is ∙ ap (λ (x : PendingRequestResult Request). Some x) c.in-Ok-Some-Request.field-0-0-is in
    inl (record {
      said = c.in-Ok-Some-Request.field-0;
      ctx = c.pending_request.new.self;
      reads = c.in-Ok-Some-Request.ensures.ok;
      does = subst (λ (o : Option (PendingRequestResult Request)). ShakesRead h o c.refused.result
          (record { context = c.handle_request.new.ctx; handshaker = c.handle_request.new.self; initial_serial = c.args.self.now.initial_serial })) (sym came) (record {
            answer = c.handle_request.result;
            handles = c.handle_request.ensures.handles;
            shaken = c.refused.ensures ∙ sym (ap (λ (x : Result (Option EisHandshakeResp) Error). shaken_by x) c.in-Err-handle_request.is);
            serial = refl;
          });
    })

pub returns-in-Err-handle_request-clause-shorter : goal.returns-in-Err-handle_request-clause-shorter
returns-in-Err-handle_request-clause-shorter c = λ gone. absurd (subst (λ (s : Shaken). IsGone s) c.refused.ensures gone)

pub returns-in-Ok-Some-ParseError-clause-shakes : goal.returns-in-Ok-Some-ParseError-clause-shakes
returns-in-Ok-Some-ParseError-clause-shakes c =
    let h = shaking_with c.args.self.now c.pending_request.new.self in
    inl (record {
      said = c.in-Ok-Some-ParseError.field-0;
      ctx = c.pending_request.new.self;
      reads = c.in-Ok-Some-ParseError.ensures.ok;
      does = subst (λ (o : Option (PendingRequestResult Request)). ShakesRead h o c.refused-in-Ok-Some-ParseError.result h)
          (sym (c.in-Ok-Some-ParseError.field-0-is ∙ ap (λ (x : PendingRequestResult Request). Some x) c.in-Ok-Some-ParseError.field-0-0-is)) (c.refused-in-Ok-Some-ParseError.ensures, refl);
    })

pub returns-in-Ok-Some-ParseError-clause-shorter : goal.returns-in-Ok-Some-ParseError-clause-shorter
returns-in-Ok-Some-ParseError-clause-shorter c = λ gone. absurd (subst (λ (s : Shaken). IsGone s) c.refused-in-Ok-Some-ParseError.ensures gone)

pub returns-in-Ok-Some-InvalidObject-clause-shakes : goal.returns-in-Ok-Some-InvalidObject-clause-shakes
returns-in-Ok-Some-InvalidObject-clause-shakes c =
    let h = shaking_with c.args.self.now c.pending_request.new.self in
    inl (record {
      said = c.in-Ok-Some-InvalidObject.field-0;
      ctx = c.pending_request.new.self;
      reads = c.in-Ok-Some-InvalidObject.ensures.ok;
      does = subst (λ (o : Option (PendingRequestResult Request)). ShakesRead h o c.refused-in-Ok-Some-InvalidObject.result h)
          (sym (c.in-Ok-Some-InvalidObject.field-0-is ∙ ap (λ (x : PendingRequestResult Request). Some x) c.in-Ok-Some-InvalidObject.field-0-0-is)) (c.refused-in-Ok-Some-InvalidObject.ensures, refl);
    })

pub returns-in-Ok-Some-InvalidObject-clause-shorter : goal.returns-in-Ok-Some-InvalidObject-clause-shorter
returns-in-Ok-Some-InvalidObject-clause-shorter c = λ gone. absurd (subst (λ (s : Shaken). IsGone s) c.refused-in-Ok-Some-InvalidObject.ensures gone)

pub returns-in-Err-clause-shakes : goal.returns-in-Err-clause-shakes
returns-in-Err-clause-shakes c = inr (c.refused-in-Err.ensures, ap (λ (b : BackendView). shaking_with c.args.self.now b) c.in-Err.ensures.err)

pub returns-in-Err-clause-shorter : goal.returns-in-Err-clause-shorter
returns-in-Err-clause-shorter c = λ gone. absurd (subst (λ (s : Shaken). IsGone s) c.refused-in-Err.ensures gone)
