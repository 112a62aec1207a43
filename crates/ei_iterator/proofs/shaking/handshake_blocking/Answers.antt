use Rattle.std.proofs.Common.{Err, ap, ◌∙◌}
use Rattle.std.proofs.lemmas.Result.{err_from_is_err_and}
use Rattle.ei_types.specs.declared.error.Error.{Error}
use Rattle.ei_types.specs.declared.error.Error.TheVariants as error
use Rattle.ei_iterator.proofs.OtherAnswer.{pieces_as, err_as, no_err, begins_ok, begins_err}
use Rattle.ei_iterator.proofs.shaking.handshake_blocking.Goals as goal

-- the handshake was refused
pub returns-in_err-resp-clause-opens : goal.returns-in_err-resp-clause-opens
returns-in_err-resp-clause-opens g c = λ told left are.
    let p = err_from_is_err_and c.from_residual.result c.from_residual.ensures.1 in
    let is = p.1 ∙ ap (λ (e : Error). Err e) p.2 in
    record {
      shaken = c.ei_handshake_blocking.result;
      stays = c.ei_handshake_blocking.new.ctx;
      opens = c.ei_handshake_blocking.ensures.opens told left (pieces_as (λ e. (e.0, err_as _ _ _ is c.in_err-resp.was error.UnexpectedEof e.1)) are);
      begins = begins_err _ _ _ _ _ c.in_err-resp.was is;
    }

-- it gave the connection
pub returns-clause-opens : goal.returns-clause-opens
returns-clause-opens g c = λ told left are.
    record {
      shaken = c.ei_handshake_blocking.result;
      stays = c.ei_handshake_blocking.new.ctx;
      opens = c.ei_handshake_blocking.ensures.opens told left (pieces_as (λ e. no_err _ _ c.in_ok-resp.was error.UnexpectedEof e.1) are);
      begins = begins_ok _ _ _ _ _ c.in_ok-resp.was c.new.ensures;
    }
