use Rattle.std.proofs.Common.{sym, ◌∙◌, arith}
use Rattle.ei_keyed.proofs.Kept.{value_found, takes, fewer, kept_taken}
use Rattle.ei_keyed.proofs.places.Places.take_at.Goals as goal

pub overflow_sub-self : goal.overflow_sub-self
overflow_sub-self g c =
    let one = fewer c.args.key c.self.inside.all.items c.args.at c.index_mut.result.now (rw (← c.self.view_is) at c.requires) c.index_mut.ensures.value in
    omega (arith, one, c.self.invariant.counted)

pub invariant_of-self : goal.invariant_of-self
invariant_of-self g c = rw c.take-value.ensures.after (kept_taken c.args.key c.self.inside.all.items c.self.inside.count c.self.inside.rising c.args.at c.index_mut.result.now c.self.invariant (rw (← c.self.view_is) at c.requires) c.index_mut.ensures.value)

pub returns-clause-value : goal.returns-clause-value
returns-clause-value g c = c.take-value.ensures.value ∙ rw (← c.self.view_is) (sym (value_found c.args.key c.self.inside.all.items c.args.at c.index_mut.result.now (rw (← c.self.view_is) at c.requires) c.index_mut.ensures.value))

pub returns-clause-items : goal.returns-clause-items
returns-clause-items g c = rw (c.take-value.ensures.after, ← c.self.view_is) (takes c.args.key c.self.inside.all.items c.args.at c.index_mut.result.now (rw (← c.self.view_is) at c.requires))
