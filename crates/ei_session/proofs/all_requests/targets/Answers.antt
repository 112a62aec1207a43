use Rattle.ei_session.proofs.ReplyTargets.{reply_targets}
use Rattle.ei_session.proofs.Announcing.{object_told}
use Rattle.ei_session.proofs.AcceptedLaws.{open_lasts}
use Rattle.ei_session.proofs.NewCallbacks.{callback_new}
use Rattle.ei_session.proofs.all_requests.targets.Goals as goal

pub returns : goal.returns
returns c = record {
  targets = reply_targets;
  announced = object_told;
  callback = λ setup before m x r s. let w = callback_new setup before m x r s in (w.low, w.high, w.fresh);
  lasts = open_lasts;
}
