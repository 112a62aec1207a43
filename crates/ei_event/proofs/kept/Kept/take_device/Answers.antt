use Rattle.std.proofs.Common.{refl}
use Rattle.ei_reported.specs.Said.{Resumed, Paused, StartEmulating, StopEmulating}
use Rattle.ei_event.proofs.kept.Kept.take_device.Goals as goal

pub returns-in-Resumed-clause-does : goal.returns-in-Resumed-clause-does
returns-in-Resumed-clause-does g c = rw c.in-Resumed.is (c.device_tells.ensures.does Resumed refl)

pub returns-in-Paused-clause-does : goal.returns-in-Paused-clause-does
returns-in-Paused-clause-does g c = rw c.in-Paused.is (c.device_tells-in-Paused.ensures.does Paused refl)

pub returns-in-StartEmulating-clause-does : goal.returns-in-StartEmulating-clause-does
returns-in-StartEmulating-clause-does g c = rw c.in-StartEmulating.is (c.device_tells-in-StartEmulating.ensures.does (StartEmulating c.in-StartEmulating.sequence) refl)

pub returns-in-StopEmulating-clause-does : goal.returns-in-StopEmulating-clause-does
returns-in-StopEmulating-clause-does g c = rw c.in-StopEmulating.is (c.device_tells-in-StopEmulating.ensures.does StopEmulating refl)
