use Rattle.ei_session.proofs.AnsweredMeans.{gone_asked, made_asked, synced_asked, steps_asked, reply_asked}
use Rattle.ei_session.proofs.meanings.answered_by_meaning.Goals as goal

pub returns : goal.returns
returns c = record { gone = gone_asked; made = made_asked; synced = synced_asked; steps = steps_asked; reply = reply_asked }
