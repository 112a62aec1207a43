use Rattle.std.proofs.Common.{sym, subst}
use Rattle.ei_spec.specs.Piece.{stream}
use Rattle.ei_session.specs.Served.{accepted, reading_of}
use Rattle.ei_serve.specs.declared.state.SessionState.{SessionState}
use Rattle.ei_serve.specs.Standing.{Stands}
use Rattle.ei_serve.proofs.BetweenTurns.{client_at}
use Rattle.ei_serve.proofs.session.Session.connection.Goals as goal

pub returns-clause-client : goal.returns-clause-client
returns-clause-client c = λ setup pieces times s.
    let stands = subst (λ (x : SessionState). Stands setup pieces times x) (sym c.self.view_is) s in
    rw c.connection.ensures (client_at setup (accepted setup (stream pieces)) times (reading_of setup (stream pieces)).rest stands.unread c.self.inside.state.phase stands.phase)
