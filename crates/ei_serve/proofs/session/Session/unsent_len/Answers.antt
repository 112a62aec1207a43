use Rattle.std.proofs.Common.{◌∙◌}
use Rattle.ei_serve.proofs.BetweenTurns.{none_unsent}
use Rattle.ei_serve.proofs.session.Session.unsent_len.Goals as goal

pub returns-clause-none : goal.returns-clause-none
returns-clause-none c = c.unsent_len.ensures ∙ none_unsent c.self.inside.state c.self.invariant
