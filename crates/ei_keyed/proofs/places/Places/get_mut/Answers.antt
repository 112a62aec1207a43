use Rattle.std.proofs.Common.{refl, sym}
use Rattle.ei_keyed.proofs.Live.{unfound}
use Rattle.ei_keyed.proofs.places.Places.get_mut.Goals as goal

pub returns-in-None : goal.returns-in-None
returns-in-None g c = (refl, record { writes_back = tt; value = rw (← c.self.view_is) (sym (unfound c.args.key c.self.inside.all.items (sym (rw c.deref.ensures.value at c.in-None.ensures)))) })
