use Rattle.ei_session.specs.Objects.{is_release}
use Rattle.ei_session.proofs.ObjectShape.{unknown_makes_nothing}
use Rattle.ei_session.proofs.SerialLaws.{steps_made, steps_exhausting, steps_one, steps_device, steps_quiet, gone_plain, gone_unknown}
use Rattle.ei_session.proofs.all_requests.steps_after.Goals as goal

pub returns : goal.returns
unfolding is_release
returns c = record {
  device = steps_made;
  exhausting = steps_exhausting;
  release = steps_one;
  device_release = steps_device;
  plain = λ before m e n k r. steps_quiet before m n (gone_plain before m e k r);
  unknown = λ before m n. steps_quiet before m (unknown_makes_nothing before m n) (gone_unknown before m n);
}
