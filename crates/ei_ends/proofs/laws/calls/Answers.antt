use Rattle.ei_ends.proofs.JoinedSteps.{call_ordinary, call_destructor, call_announcing, call_handing_over}
use Rattle.ei_ends.proofs.laws.calls.Goals as goal

pub returns : goal.returns
returns c = record { ordinary = call_ordinary; destructor = call_destructor; announcing = call_announcing; handing_over = call_handing_over }
