use Rattle.ei_iterator.proofs.Hearing.{more_turns}
use Rattle.ei_iterator.proofs.laws.follows.Goals as goal

pub returns : goal.returns
returns g c = λ start before readings s turns h differ. more_turns c.events.ensures.took start before readings s turns h differ
