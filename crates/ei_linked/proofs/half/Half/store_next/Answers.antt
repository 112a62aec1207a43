use Rattle.std.proofs.Common.{◌∷◌, []}
use Rattle.ei_linked.proofs.half.Half.store_next.Goals as goal

pub returns-clause-more : goal.returns-clause-more
returns-clause-more g c = (c.in_ok-message.message ∷ [], c.in_ok-keep.ensures.ok)
