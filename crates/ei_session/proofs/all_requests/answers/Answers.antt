use Rattle.ei_session.specs.Objects.{is_release}
use Rattle.ei_session.proofs.SerialLaws.{gone_one, gone_device}
use Rattle.ei_session.proofs.ReplyLaws.{reply_finish, reply_unknown, reply_sync, reply_made, reply_release, reply_quiet, same_destroyed}
use Rattle.ei_session.proofs.all_requests.answers.Goals as goal

pub returns : goal.returns
unfolding is_release
returns c = record {
  finish = reply_finish;
  unknown = reply_unknown;
  sync = reply_sync;
  device = reply_made;
  release = reply_release;
  destroyed = same_destroyed;
  one_gone = gone_one;
  device_gone = gone_device;
  plain = reply_quiet;
}
