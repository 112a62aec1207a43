use Rattle.std.proofs.Common.{sym, ap, ◌∙◌}
use Rattle.std.specs.FinMap.{get, remove}
use Rattle.ei_keyed.specs.MapOf.{map_of}
use Rattle.ei_by_id.proofs.Maps.{got, taken, differ_taken}
use Rattle.ei_by_id.proofs.ById.take.Goals as goal

pub invariant_of-self : goal.invariant_of-self
invariant_of-self g c = rw c.take.ensures.others (differ_taken c.self.inside.values.items c.args.id c.self.invariant)

pub returns-clause-value : goal.returns-clause-value
returns-clause-value g c = c.take.ensures.value ∙ sym (got c.self.inside.values.items c.args.id) ∙ ap (λ (m : _). get m c.args.id) c.self.view_is

pub returns-clause-others : goal.returns-clause-others
returns-clause-others g c = ap map_of c.take.ensures.others ∙ taken c.self.inside.values.items c.args.id c.self.invariant ∙ ap (λ (m : _). remove m c.args.id) c.self.view_is
