use Rattle.std.proofs.Common.{◌∙◌, ap, Err, refl}
use Rattle.std.specs.Prelude.{IsErrOf}
use Rattle.std.proofs.lemmas.Result.{err_from_is_err_and}
use Rattle.ei_backend.proofs.Lending.{source_as}
use Rattle.ei_types.specs.declared.error.Error.{Error}
use Rattle.ei_wire.specs.declared.error.ReadError.TheVariants as read_error
use Rattle.ei_session.specs.Served.{accepted, reading_of}
use Rattle.ei_spec.specs.Piece.{stream}
use Rattle.ei_serve.proofs.Causes.{no_risen}
use Rattle.ei_serve.proofs.BetweenTurns.{open_in}
use Rattle.ei_serve.proofs.FewUnread.{unread_few}
use Rattle.ei_serve.proofs.Turns.{err_takes, none_takes, some_takes, none_is_end}
use Rattle.ei_serve.proofs.state.SessionState.take_piece.Goals as goal

pub returns-in_err-piece_came-clause-takes : goal.returns-in_err-piece_came-clause-takes
returns-in_err-piece_came-clause-takes g c = λ setup pieces times s.
    let p = err_from_is_err_and c.from_residual.result c.from_residual.ensures.1 in
    let r = c.read-read.ensures.reads setup (accepted setup (stream pieces)) times (reading_of setup (stream pieces)).rest s.unread (unread_few setup (stream pieces) s.waits) s.phase in
    err_takes setup pieces times c.args.self.now s _ _ c.read-read.new.self c.is_full-is_full.result _ _ _ _ c.is_full-is_full.ensures.is r c.in_err-piece_came.ensures (p.1 ∙ ap (λ (e : Error). Err e) p.2)

pub returns-then-not-branch-clause-takes : goal.returns-then-not-branch-clause-takes
returns-then-not-branch-clause-takes g c = λ setup pieces times s.
    let r = c.read-read.ensures.reads setup (accepted setup (stream pieces)) times (reading_of setup (stream pieces)).rest s.unread (unread_few setup (stream pieces) s.waits) s.phase in
    none_takes setup pieces times c.args.self.now s _ _ c.read-read.new.self c.is_full-is_full.result _ _ _ r c.in_ok-piece_came.ensures c.if-not-branch.true refl refl refl

pub returns-clause-takes : goal.returns-clause-takes
returns-clause-takes g c = λ setup pieces times s.
    let r = c.read-read.ensures.reads setup (accepted setup (stream pieces)) times (reading_of setup (stream pieces)).rest s.unread (unread_few setup (stream pieces) s.waits) s.phase in
    some_takes setup pieces times c.args.self.now s _ _ c.read-read.new.self c.is_full-is_full.result _ _ _ c.is_full-is_full.ensures.is c.is_full-is_full.ensures.in_range r c.in_ok-piece_came.ensures c.if-not-branch.false refl refl c.saturating_add-self.ensures

pub returns-then-not-branch-clause-source : goal.returns-then-not-branch-clause-source
returns-then-not-branch-clause-source g c =
    let ended : IsErrOf c.read-read.result read_error.UnexpectedEof = none_is_end _ _ _ c.in_ok-piece_came.ensures c.if-not-branch.true in
    source_as (λ f. absurd cc) (no_risen _ _)
    (λ q. (open_in q.0.setup (accepted q.0.setup (stream q.0.pieces)) q.0.times (reading_of q.0.setup (stream q.0.pieces)).rest q.0.stands.unread _ q.0.stands.phase, ended)) c.read-read.ensures.source
