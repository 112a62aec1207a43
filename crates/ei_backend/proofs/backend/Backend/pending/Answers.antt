use Rattle.ei_backend.specs.Backend.{new_backend}
use Rattle.ei_backend.proofs.NextIs.{few_stay}
use Rattle.ei_backend.proofs.backend.Backend.pending.Goals as goal

pub returns-clause-few_left : goal.returns-clause-few_left
returns-clause-few_left g c = λ none. few_stay _ _ _ ((rw none at c.next.ensures.ok) (new_backend c.self.inside.table))
