use Rattle.std.proofs.Common.{Some, None}
use Rattle.ei_spec.specs.Groups.{Input as Waits, Frame, Other, Free}
use Rattle.ei_session.proofs.WaitingLaws.{group_by}
use Rattle.ei_session.proofs.all_requests.groups.Goals as goal

pub returns : goal.returns
returns c = record {
  input = λ setup before m device d i e. group_by setup before m device (Some (Waits d i)) e;
  frame = λ setup before m device d serial time e. group_by setup before m device (Some (Frame d serial time)) e;
  other = λ setup before m device d y e. group_by setup before m device (Some (Other d y)) e;
  free = λ setup before m device y e. group_by setup before m device (Some (Free y)) e;
  none = λ setup before m device e. group_by setup before m device None e;
}
