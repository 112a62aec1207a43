use Rattle.std.proofs.Common.{◌∙◌, refl}
use Rattle.std.proofs.lemmas.List.{map-set}
use Rattle.std.proofs.Math.Seq.{map-set_same}
use Rattle.ei_filter.proofs.filter.Filter.enable.Goals as goal

pub returns-clause-tests : goal.returns-clause-tests
returns-clause-tests g c = map-set_same _ c.args.self.now.rules.items c.args.index _ c.index_mut.result.now (rw (← c.index_mut.ensures.value) c.set_enabled.ensures.test)

pub returns-clause-asked : goal.returns-clause-asked
returns-clause-asked g c = map-set _ c.args.self.now.rules.items c.args.index c.set_enabled.new.rule ∙ (rw c.set_enabled.ensures.asked refl)
