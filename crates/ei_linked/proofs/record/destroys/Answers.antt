use Rattle.ei_spec.specs.Rows.{row_at}
use Rattle.ei_spec.specs.Table.{table}
use Rattle.ei_linked.proofs.Meeting.{destroys_is}
use Rattle.ei_linked.proofs.record.destroys.Goals as goal

pub returns-in-Some : goal.returns-in-Some
returns-in-Some c = destroys_is (row_at c.args.opcode (table c.args.events c.args.interface)) c.in-Some.row c.row_of.result c.in-Some.is c.row_of.ensures
