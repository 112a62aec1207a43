use Rattle.std.proofs.Common.{ap, ◌∙◌}
use Rattle.std.specs.FinMap.{insert}
use Rattle.ei_keyed.specs.MapOf.{map_of}
use Rattle.ei_by_id.specs.ById.{kept}
use Rattle.ei_by_id.proofs.Maps.{filtered, differ_kept}
use Rattle.ei_by_id.proofs.ById.put_retaining.Goals as goal

pub invariant_of-self-2 : goal.invariant_of-self-2
invariant_of-self-2 g c =
    let xs = c.self.inside.values.items in
    let test = c.requires.decided.0 in
    c.write.ensures.differ (rw (c.retain.ensures.items test c.requires.decided.1, c.in_ok-reserve.ensures.items) (differ_kept test xs c.self.invariant))

pub returns-clause-ok : goal.returns-clause-ok
returns-clause-ok g c = λ test decides.
    let xs = c.self.inside.values.items in
    let items = rw c.in_ok-reserve.ensures.items at c.retain.ensures.items test decides in
    c.write.ensures.map ∙ ap (λ (m : _). insert m c.args.id c.args.value) (ap map_of items ∙ filtered test xs c.self.invariant ∙ ap (kept test) c.self.view_is)
