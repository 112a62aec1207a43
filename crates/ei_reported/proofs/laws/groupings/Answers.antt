use Rattle.ei_reported.proofs.ReportedLaws.{without_seats}
use Rattle.ei_reported.proofs.laws.groupings.Goals as goal

pub returns : goal.returns
returns c = record {
  grouped = without_seats;
}
