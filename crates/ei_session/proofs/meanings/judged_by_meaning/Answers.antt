use Rattle.ei_session.proofs.JudgedMeans.{ends_asked, exhausts_asked, judge_asked, judge_unknown}
use Rattle.ei_session.proofs.meanings.judged_by_meaning.Goals as goal

pub returns : goal.returns
returns c = record { disconnect = ends_asked; exhausts = exhausts_asked; asks = judge_asked; unknown = judge_unknown }
