use Rattle.std.proofs.Common.{arith, subst}
use Rattle.std.proofs.lemmas.List.{take_all}
use Rattle.ei_acts.specs.Sendable.{AreLawful}
use Rattle.ei_pair.proofs.Fitting.{lawful_more}
use Rattle.ei_pair.proofs.texts.description.Goals as goal

pub loop-one-preserved : goal.loop-one-preserved
loop-one-preserved c = lawful_more c.args.setup.now c.loop-one.one-index _ c.loop-one-test.true c.loop-one.invariant c.item.ensures

pub returns : goal.returns
returns c = subst AreLawful (take_all c.loop-one.one-index c.args.setup.now (omega arith)) c.loop-one.invariant
