use Rattle.ei_session.proofs.RefusalLaws.{refused_known, refused_early, refused_never}
use Rattle.ei_session.proofs.all_requests.refusals.Goals as goal

pub returns : goal.returns
returns c = record { known = refused_known; early = refused_early; unknown = refused_never }
