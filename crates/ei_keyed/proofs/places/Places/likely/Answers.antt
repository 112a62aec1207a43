use Rattle.ei_keyed.proofs.Kept.{value_found, likely_found}
use Rattle.ei_keyed.proofs.places.Places.likely.Goals as goal

pub returns-in-Some : goal.returns-in-Some
returns-in-Some g c =
    let place = rw c.deref.ensures.value at c.in-Some.ensures in
    rw (← c.self.view_is) (likely_found c.as_ref.result _ _ c.as_ref.ensures.value (value_found c.args.key c.self.inside.all.items c.in-Some.at c.index.result.now place c.index.ensures))
