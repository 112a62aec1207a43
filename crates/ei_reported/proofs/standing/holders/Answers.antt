use Rattle.ei_reported.proofs.HeldByDevices.{interface_there, holder_added, holder_none, holder_held, setup_none, setup_pending}
use Rattle.ei_reported.proofs.standing.holders.Goals as goal

pub returns : goal.returns
returns c = record {
  there = interface_there;
  added = holder_added;
  none = holder_none;
  held = holder_held;
  none_in_setup = setup_none;
  in_setup = setup_pending;
}
