-- The handshaker wanted memory, is done, or refused the finish: what stands at the server's end then.
use Rattle.std.proofs.Common.{◌≡◌, [], Result, Err, refl, sym, ap, subst, ◌∙◌}
use Rattle.std.proofs.lemmas.Result.{err_from_is_err_and}
use Rattle.ei_types.specs.declared.error.Error.{Error}
use Rattle.ei_backend.specs.Backend.{BackendView}
use Rattle.ei_handshake.specs.Handshaker.{Completes, RefusesFinish}
use Rattle.ei_request.specs.Connection.{new_connection}
use Rattle.ei_pair.specs.ServerEnd.{endpoint_in}
use Rattle.ei_pair.specs.Stages.{FinishesEnd}
use Rattle.ei_pair.specs.declared.server_end.ServerEnd.TheVariants as end
use Rattle.ei_pair.proofs.Finishing.{finish_wants, finish_done, finish_refused}
use Rattle.ei_pair.proofs.shaking.finish.Goals as goal

pub returns-in_err-spare : goal.returns-in_err-spare
returns-in_err-spare c =
    let p = err_from_is_err_and c.from_residual.result c.from_residual.ensures.1 in
    subst (λ (r : Result (Unit {0}) Error). FinishesEnd c.args.handshake.now.id c.args.tells.now (endpoint_in c.args.server.now) r c.args.tells.now c.args.server.now)
    (sym (p.1 ∙ ap (λ (e : Error). let r : Result (Unit {0}) Error = Err e in r) p.2))
    (finish_wants c.args.handshake.now.id c.args.tells.now (endpoint_in c.args.server.now) c.args.server.now c.requires.shakes)

pub returns-in-Ok : goal.returns-in-Ok
returns-in-Ok c =
    let at : c.in-Shaking.context ≡ endpoint_in c.args.server.now = ap endpoint_in (sym c.in-Shaking.is) in
    finish_done c.args.handshake.now.id c.args.tells.now c.finish.new.self (endpoint_in c.args.server.now) c.finish.new.ctx c.in-Ok.resp c.args.serial c.replace.new.dest
    (subst (λ (b : BackendView). Completes c.args.handshake.now.id c.args.tells.now b c.in-Ok.resp c.finish.new.self c.finish.new.ctx) at c.in-Ok.ensures.ok)
    c.requires.serial
    (c.replace.ensures.after ∙ ap end.Talking (c.new-converter.ensures ∙ ap (λ (b : BackendView). record { handle = new_connection b c.in-Ok.resp c.args.serial; queue = [] }) c.replace-context.ensures.value))

pub returns-in-Err : goal.returns-in-Err
returns-in-Err c =
    let at : c.in-Shaking.context ≡ endpoint_in c.args.server.now = ap endpoint_in (sym c.in-Shaking.is) in
    finish_refused c.args.handshake.now.id c.args.tells.now c.finish.new.self (endpoint_in c.args.server.now) c.finish.new.ctx c.in-Err.error (end.Shaking c.finish.new.ctx)
    (subst (λ (b : BackendView). RefusesFinish c.in-Err.error c.args.handshake.now.id c.args.tells.now b c.finish.new.self c.finish.new.ctx) at c.in-Err.ensures.err)
    refl
