use Rattle.ei_hub.proofs.Places.{within_none}
use Rattle.ei_hub.proofs.hub.Hub.new.Goals as goal

pub invariant_of-result-clause-within : goal.invariant_of-result-clause-within
invariant_of-result-clause-within g c = within_none c.args.setup.pieces _ c.new.ensures.items
