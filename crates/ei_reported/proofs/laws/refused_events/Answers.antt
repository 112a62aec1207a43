use Rattle.ei_reported.proofs.ReportedLaws.{refused_item, refused_tells, refused_reported, refused_waiting}
use Rattle.ei_reported.proofs.laws.refused_events.Goals as goal

pub returns : goal.returns
returns c = record {
  item = refused_item;
  tells = refused_tells;
  reported = refused_reported;
  waiting = refused_waiting;
}
