use Rattle.std.proofs.Common.{sym, ◌∙◌}
use Rattle.ei_keyed.proofs.Live.{unfound}
use Rattle.ei_keyed.proofs.Kept.{value_found}
use Rattle.ei_keyed.proofs.places.Places.get.Goals as goal

pub returns-in-Some : goal.returns-in-Some
returns-in-Some g c =
    let place = sym (rw c.deref.ensures.value at c.in-Some.ensures) in
    rw (← c.self.view_is) (c.as_ref.ensures.value ∙ sym (value_found c.args.key c.self.inside.all.items c.in-Some.at c.index.result.now place c.index.ensures))

pub returns-in-None : goal.returns-in-None
returns-in-None g c = rw (← c.self.view_is) (sym (unfound c.args.key c.self.inside.all.items (sym (rw c.deref.ensures.value at c.in-None.ensures))))
