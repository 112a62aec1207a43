use Rattle.ei_session.proofs.RefusedMeans.{refusal_asked, nothing_refused, unrefused_asks}
use Rattle.ei_session.proofs.meanings.refused_by_meaning.Goals as goal

pub returns : goal.returns
returns c = record { asks = refusal_asked; unread = nothing_refused; accepted = unrefused_asks }
