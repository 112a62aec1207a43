use Rattle.ei_spec.proofs.GroupsLaws.{grouped_more, grouped_prefix, grouped_readings}
use Rattle.ei_spec.proofs.laws.groups.Goals as goal

pub returns : goal.returns
returns g c = record { more = grouped_more; prefix = grouped_prefix; readings = grouped_readings }
