use Rattle.ei_session.proofs.AllOpen.{all_open}
use Rattle.ei_session.proofs.SettledMapLaws.{found_settled}
use Rattle.ei_session.proofs.worked_told.settled_names.Goals as goal

pub returns : goal.returns
unfolding all_open
returns c = record {
  touch = found_settled _ _;
  callback = found_settled _ _;
  seat = found_settled _ _;
  late = found_settled _ _;
  handshake = found_settled _ _;
}
