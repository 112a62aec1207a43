use Rattle.std.proofs.Common.{arith, Some}
use Rattle.ei_keyed.proofs.Live.{pushed}
use Rattle.ei_keyed.proofs.Kept.{one_more, kept_pushed}
use Rattle.ei_keyed.proofs.places.Places.push_reserved.Goals as goal

pub overflow_add-self : goal.overflow_add-self
overflow_add-self g c =
    let room = rw (← c.self.view_is) at c.requires in
    let le = one_more c.self.inside.all.items c.self.inside.count c.self.inside.all.len c.self.inside.rising c.self.invariant c.self.inside.all.ok.0 in
    omega (arith, le, room)

pub invariant_of-self : goal.invariant_of-self
invariant_of-self g c = rw c.push_reserved.ensures.items (kept_pushed c.args.key c.args.value c.self.inside.all.items c.self.inside.count c.self.inside.rising c.rises_with-self-inside.result c.self.invariant (λ e. rw c.deref.ensures.value at (c.rises_with-self-inside.ensures (Some c.args.value) e)))

pub returns-clause-items : goal.returns-clause-items
returns-clause-items g c = rw (c.push_reserved.ensures.items, ← c.self.view_is) (pushed c.args.key c.args.value c.self.inside.all.items)
