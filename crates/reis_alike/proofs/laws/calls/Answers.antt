use Rattle.reis_alike.proofs.Calling.{seat, device, resumed, closed}
use Rattle.reis_alike.proofs.laws.calls.Goals as goal

pub returns : goal.returns
returns c = record {
  seat = λ setup past readings c old fed s k stands one feeds going. seat setup past readings c old fed stands one feeds going s k;
  device = λ setup past readings after c old fed m mask stands one feeds going. device setup past readings c old fed stands one feeds going m after mask;
  resumed = resumed;
  closed = λ setup past readings after c old fed m e stands one feeds going. closed setup past readings c old fed stands one feeds going m after e;
}
