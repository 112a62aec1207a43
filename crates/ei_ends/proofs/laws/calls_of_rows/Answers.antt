use Rattle.ei_ends.proofs.JoinedSteps.{row_called}
use Rattle.ei_ends.proofs.laws.calls_of_rows.Goals as goal

pub returns : goal.returns
returns c = row_called
