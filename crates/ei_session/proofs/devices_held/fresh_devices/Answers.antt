use Rattle.ei_session.proofs.FreshDevices.{fresh_group, fresh_down}
use Rattle.ei_session.proofs.devices_held.fresh_devices.Goals as goal

pub returns : goal.returns
returns c = record { group = fresh_group; touches = fresh_down }
