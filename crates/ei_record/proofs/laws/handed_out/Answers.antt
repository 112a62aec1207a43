use Rattle.ei_record.proofs.Law.{handed_out}
use Rattle.ei_record.proofs.laws.handed_out.Goals as goal

pub returns : goal.returns
returns c = handed_out
