use Rattle.std.proofs.Common.{◌∙◌, ap, Err}
use Rattle.std.proofs.lemmas.Result.{err_from_is_err_and}
use Rattle.ei_types.specs.declared.error.Error.{Error}
use Rattle.ei_serve.proofs.Lent.{sink_passed, sink_unfailed, sink_ok}
use Rattle.ei_serve.proofs.Stepping.{connect_cut_off}
use Rattle.ei_serve.proofs.phase.Phase.connect.Goals as goal

pub returns-in_err-converter-in-Handshake-clause-connects : goal.returns-in_err-converter-in-Handshake-clause-connects
returns-in_err-converter-in-Handshake-clause-connects g c = λ before finish after handles u f o.
    let p = err_from_is_err_and c.from_residual.result c.from_residual.ensures.1 in
    let s = rw (← c.in-Handshake.ensures.value) at o in
    connect_cut_off _ before finish after handles _ _ _ _ _ (p.1 ∙ ap (λ (e : Error). Err e) p.2) (c.in_err-converter-in-Handshake.ensures.connects before finish after handles u f s)

pub returns-in_ok-converter-in-Handshake-clause-connects : goal.returns-in_ok-converter-in-Handshake-clause-connects
returns-in_ok-converter-in-Handshake-clause-connects g c = λ before finish after handles u f o.
    let s = rw (← c.in-Handshake.ensures.value) at o in
    rw c.replace-in-Handshake.ensures.after (c.in_ok-converter-in-Handshake.ensures.connects before finish after handles u f s)

pub returns-in_err-converter-in-Handshake-clause-sink : goal.returns-in_err-converter-in-Handshake-clause-sink
returns-in_err-converter-in-Handshake-clause-sink g c =
    let p = err_from_is_err_and c.from_residual.result c.from_residual.ensures.1 in
    sink_passed _ _ _ (p.1 ∙ ap (λ (e : Error). Err e) p.2) c.in_err-converter-in-Handshake.ensures.sink

pub returns-in_ok-converter-in-Handshake-clause-sink : goal.returns-in_ok-converter-in-Handshake-clause-sink
returns-in_ok-converter-in-Handshake-clause-sink g c = sink_ok _ _ (sink_unfailed _ _ c.in_ok-converter-in-Handshake.ensures.sink)
