use Rattle.std.proofs.Common.{ap}
use Rattle.std.specs.Prelude.{is_some}
use Rattle.ei_session.proofs.LeftInterfaces.{is_left, left_there, left_own}
use Rattle.ei_session.proofs.objects_by_id.interfaces_there.Goals as goal

pub returns : goal.returns
returns c = record {
  there = λ before device id h. ap is_some (left_there before device id h).is;
  own = left_own;
  above = λ before device id h. (left_there before device id h).above;
  all = λ before device id e k p far. is_left before id device e k p far;
}
