use Rattle.ei_reported.proofs.ReportedLaws.{reported_prefix, reported_readings}
use Rattle.ei_reported.proofs.laws.prefixes.Goals as goal

pub returns : goal.returns
returns c = record {
  prefix = reported_prefix;
  readings = reported_readings;
}
