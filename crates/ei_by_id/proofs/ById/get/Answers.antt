use Rattle.std.proofs.Common.{sym, ap, ◌∙◌}
use Rattle.std.specs.FinMap.{get}
use Rattle.ei_by_id.proofs.Maps.{got}
use Rattle.ei_by_id.proofs.ById.get.Goals as goal

pub returns : goal.returns
returns g c = c.get.ensures ∙ sym (got c.self.inside.values.items c.args.id) ∙ ap (λ (m : _). get m c.args.id) c.self.view_is
