use Rattle.std.proofs.Common.{refl, ◌∙◌}
use Rattle.ei_keyed.proofs.Kept.{at_value, value_found, writes, kept_written}
use Rattle.ei_keyed.proofs.places.Places.value_at.Goals as goal

pub value_mut-requires : goal.value_mut-requires
value_mut-requires g c = at_value c.args.key c.self.inside.all.items c.args.at c.index_mut-place.result.now (rw (← c.self.view_is) at c.requires) c.index_mut-place.ensures.value

pub invariant_of-self-lent : goal.invariant_of-self-lent
invariant_of-self-lent g c w = kept_written c.args.key c.self.inside.all.items c.self.inside.count c.self.inside.rising c.args.at c.index_mut-place.result.now w c.self.invariant (rw (← c.self.view_is) at c.requires) c.index_mut-place.ensures.value

pub returns : goal.returns
returns g c =
    let place = rw (← c.self.view_is) at c.requires in
    let y = c.index_mut-place.result.now in
    let xs = c.self.inside.all.items in (
      (refl, λ w. rw (← c.self.view_is) (rw (writes c.args.key xs c.args.at y w place c.index_mut-place.ensures.value) refl)),
      record { writes_back = tt; value = rw (← c.self.view_is) (value_found c.args.key xs c.args.at y place c.index_mut-place.ensures.value ∙ c.value_mut.ensures.value) },
    )
