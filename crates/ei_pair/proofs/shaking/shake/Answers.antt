-- The handshaker refused the request, kept what it tells, or the client is done.
use Rattle.std.proofs.Common.{Option, Result, Ok, Err, sym, ap, subst, ◌∙◌}
use Rattle.std.proofs.lemmas.Result.{err_from_is_err_and}
use Rattle.ei_spec.specs.Interface.{ObjectView}
use Rattle.ei_types.specs.declared.error.Error.{Error}
use Rattle.ei_handshake.specs.Handshaker.{HandshakerView, KeepsButFinish}
use Rattle.ei_pair.specs.ServerEnd.{endpoint_in}
use Rattle.ei_pair.specs.Stages.{ShakesEnd}
use Rattle.ei_pair.proofs.Finishing.{shake_told, shake_refused, shake_finishes}
use Rattle.ei_pair.proofs.shaking.shake.Goals as goal

pub returns-in_err-keep : goal.returns-in_err-keep
returns-in_err-keep c =
    let p = err_from_is_err_and c.from_residual.result c.from_residual.ensures.1 in
    subst (λ (r : Result (Unit {0}) Error). ShakesEnd c.args.tells.now (endpoint_in c.args.server.now) c.args.request r c.keep.new.self c.args.server.now)
    (sym (p.1 ∙ ap (λ (e : Error). let r : Result (Unit {0}) Error = Err e in r) p.2))
    (shake_refused c.args.tells.now c.keep.new.self (endpoint_in c.args.server.now) c.args.request _ c.args.server.now c.in_err-keep.ensures.keeps c.requires.shakes)

pub finish-requires-clause-serial : goal.finish-requires-clause-serial
finish-requires-clause-serial c =
    let kept = subst (λ (o : Option ObjectView). KeepsButFinish c.args.tells.now c.args.request (Ok o) c.keep.new.self) c.in-Some.is c.in_ok-keep.ensures.keeps in
    c.requires.serial ∙ sym (ap (λ (h : HandshakerView). h.serial) kept.1)

pub returns-in-None : goal.returns-in-None
returns-in-None c =
    shake_told c.args.tells.now c.keep.new.self (endpoint_in c.args.server.now) c.args.request c.args.server.now
    (subst (λ (o : Option ObjectView). KeepsButFinish c.args.tells.now c.args.request (Ok o) c.keep.new.self) c.in-None.is c.in_ok-keep.ensures.keeps) c.requires.shakes

pub returns-in-Some : goal.returns-in-Some
returns-in-Some c =
    shake_finishes c.args.tells.now c.keep.new.self c.finish.new.tells (endpoint_in c.args.server.now) c.args.request c.in-Some.handshake c.finish.result c.finish.new.server
    (subst (λ (o : Option ObjectView). KeepsButFinish c.args.tells.now c.args.request (Ok o) c.keep.new.self) c.in-Some.is c.in_ok-keep.ensures.keeps) c.finish.ensures

pub finish-requires-clause-shakes : goal.finish-requires-clause-shakes
finish-requires-clause-shakes c = c.requires.shakes
