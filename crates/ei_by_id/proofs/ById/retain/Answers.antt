use Rattle.std.proofs.Common.{ap, ◌∙◌}
use Rattle.ei_keyed.specs.MapOf.{map_of}
use Rattle.ei_by_id.specs.ById.{kept}
use Rattle.ei_by_id.proofs.Maps.{filtered, differ_kept}
use Rattle.ei_by_id.proofs.ById.retain.Goals as goal

pub invariant_of-self : goal.invariant_of-self
invariant_of-self g c = rw (c.retain.ensures.items c.requires.decided.0 c.requires.decided.1) (differ_kept c.requires.decided.0 c.self.inside.values.items c.self.invariant)

pub returns : goal.returns
returns g c = λ test decides. ap map_of (c.retain.ensures.items test decides) ∙ filtered test c.self.inside.values.items c.self.invariant ∙ ap (kept test) c.self.view_is
