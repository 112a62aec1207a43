use Rattle.ei_reported.proofs.ReportedLaws.{serial_more, reported_more}
use Rattle.ei_reported.proofs.laws.one_more_event.Goals as goal

pub returns : goal.returns
returns c = record {
  serial = serial_more;
  reported = reported_more;
}
