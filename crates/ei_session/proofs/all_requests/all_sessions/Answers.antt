use Rattle.ei_session.proofs.AllParts.{session_over, session_end}
use Rattle.ei_session.proofs.all_requests.all_sessions.Goals as goal

pub returns : goal.returns
returns c = record { over = session_over; end = session_end }
