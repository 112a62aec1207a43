use Rattle.ei_spec.proofs.Again.{again}
use Rattle.ei_spec.proofs.KindLaws.{written_again, refused}
use Rattle.ei_spec.proofs.RowLaws.{all_again}
use Rattle.ei_spec.proofs.WrittenRows.{values_read}
use Rattle.ei_spec.proofs.laws.spelling.Goals as goal

pub returns : goal.returns
returns c = record { read_back = again; written = written_again; refused = refused; all = all_again; values = values_read }
