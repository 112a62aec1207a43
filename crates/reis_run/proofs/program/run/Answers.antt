use Rattle.std.proofs.Common.{rules, Some}
use Rattle.reis_run.specs.Asked.{setup_with}
use Rattle.reis_run.specs.Tell.{report_text, traced_text}
use Rattle.reis_run.specs.declared.words.Command.TheVariants.{Serve, Trace}
use Rattle.reis_run.proofs.ReportLaws.{runs_as, serves_as}
use Rattle.reis_run.proofs.program.run.Goals as goal

pub returns-in-Some-Serve-clause-runs : goal.returns-in-Some-Serve-clause-runs
returns-in-Some-Serve-clause-runs g c =
    let asked = c.in-Some-Serve in
    runs_as _ _ (Some (Serve asked.serial asked.capabilities asked.pieces)) _ _ _ (search rules)
    (serves_as report_text _ (setup_with asked.serial asked.capabilities asked.pieces) _ _ _ (search rules) c.serve_command.ensures.serves)

pub returns-in-Some-Trace-clause-runs : goal.returns-in-Some-Trace-clause-runs
returns-in-Some-Trace-clause-runs g c =
    let asked = c.in-Some-Trace in
    runs_as _ _ (Some (Trace asked.serial asked.capabilities asked.pieces)) _ _ _ (search rules)
    (serves_as traced_text _ (setup_with asked.serial asked.capabilities asked.pieces) _ _ _ (search rules) c.serve_command-in-Some-Trace.ensures.serves)
