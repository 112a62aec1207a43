use Rattle.std.proofs.Common.{Some, None}
use Rattle.ei_spec.specs.Groups.{Input, Frame, Other, Free}
use Rattle.ei_spec.proofs.GroupsLaws.{group_by}
use Rattle.ei_spec.proofs.laws.waiting_inputs.Goals as goal

pub returns : goal.returns
returns g c = record {
  input = λ device d x before slot e. group_by device before slot (Some (Input d x)) e;
  frame = λ device d serial time before slot e. group_by device before slot (Some (Frame d serial time)) e;
  other = λ device d y before slot e. group_by device before slot (Some (Other d y)) e;
  free = λ device y before slot e. group_by device before slot (Some (Free y)) e;
  none = λ device before slot e. group_by device before slot None e;
}
