use Rattle.std.proofs.Common.{◌∙◌, ap}
use Rattle.reis_demo.specs.Summary.{demo_lines}
use Rattle.reis_run.proofs.ReportLaws.{told_as}
use Rattle.reis_run.proofs.program.demo_command.Goals as goal

pub returns-in-Ok-clause-lines : goal.returns-in-Ok-clause-lines
returns-in-Ok-clause-lines g c = λ held takes.
    told_as 0 _ _ held _ _ (c.deref.ensures.value ∙ c.in-Ok.ensures.text ∙ ap (demo_lines c.args.groups c.args.start) c.in-Ok.ensures.disconnects) (c.tell.ensures.told held takes)
