use Rattle.std.proofs.Common.{Err, ap, ◌∙◌}
use Rattle.std.proofs.lemmas.Result.{err_from_is_err_and}
use Rattle.ei_types.specs.declared.error.Error.{Error}
use Rattle.ei_handshake.specs.Client.{ClientView}
use Rattle.ei_blocking.proofs.Beginning.{unbegun, of_greeter}
use Rattle.ei_blocking.proofs.blocking.ei_handshake_blocking.Goals as goal

pub returns-in_err-handshaker-clause-opens : goal.returns-in_err-handshaker-clause-opens
returns-in_err-handshaker-clause-opens g c = λ told left are.
    let p = err_from_is_err_and c.from_residual.result c.from_residual.ensures.1 in
    unbegun _ _ _ _ c.args.pieces told left _ _ (p.1 ∙ ap (λ (e : Error). Err e) p.2) are

pub returns-clause-opens : goal.returns-clause-opens
returns-clause-opens g c = λ told left are.
    of_greeter _ _ c.args.pieces told left _ _ _ (ap (λ (h : ClientView). h.greeter) c.in_ok-handshaker.ensures) (c.take_pieces.ensures.opens told left are)

pub returns-clause-answer : goal.returns-clause-answer
returns-clause-answer g c = λ told left are.
    (of_greeter _ _ c.args.pieces told left _ _ _ (ap (λ (h : ClientView). h.greeter) c.in_ok-handshaker.ensures) (c.take_pieces.ensures.opens told left are)).answer
