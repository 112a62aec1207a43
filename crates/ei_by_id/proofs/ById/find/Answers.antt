use Rattle.std.proofs.Common.{sym, subst}
use Rattle.std.specs.Prelude.{Option}
use Rattle.ei_by_id.specs.ById.{Finds}
use Rattle.ei_by_id.proofs.Maps.{finds}
use Rattle.ei_by_id.proofs.ById.find.Goals as goal

pub returns : goal.returns
returns g c = λ test decides. rw (c.first.ensures test decides, ← c.self.view_is) (finds test c.self.inside.values.items c.self.invariant)
