use Rattle.std.proofs.Common.{refl}
use Rattle.reis_eis.specs.declared.shaking.Shaken.TheVariants as shaken
use Rattle.reis_eis.proofs.phase.Phase.step.Goals as goal

pub returns-in-Standing-clause-steps : goal.returns-in-Standing-clause-steps
returns-in-Standing-clause-steps c = rw c.in-Standing.is (record { after = c.step.new.self; converses = c.step.ensures.steps; is = refl })

pub returns-in-Still-clause-steps : goal.returns-in-Still-clause-steps
returns-in-Still-clause-steps c =
    rw c.in-Shaking.is (record { came = shaken.Still c.in-Still.step; after = c.step-in-Shaking.new.self; shakes = c.in-Still.ensures.shakes; goes = (refl, refl) })

pub returns-in-Done-clause-steps : goal.returns-in-Done-clause-steps
returns-in-Done-clause-steps c =
    rw c.in-Shaking.is (record { came = shaken.Done c.in-Done.resp; after = c.step-in-Shaking.new.self; shakes = c.in-Done.ensures.shakes; goes = (refl, c.connect.ensures) })
