use Rattle.std.proofs.Common.{◌≡◌, ◌++◌, length}
use Rattle.std.specs.List.{filter}
use Rattle.ei_request.specs.Held.{is_of_seat, all_device_ids}
use Rattle.ei_request.specs.DeviceTable.{values}
use Rattle.ei_request.proofs.device_table.DeviceTable.push_ids_of_seat.Given as goal

-- with the ids of the devices that are left they are those of all
abbrev pub invariant-loop-device : goal.invariant-loop-device
invariant-loop-device l =
    l.ids.items ++ all_device_ids (filter (is_of_seat l.seat) (values l.rest)) ≡ l.fn.ids.items ++ all_device_ids (filter (is_of_seat l.seat) l.fn.self.items)

abbrev pub decreases-loop-device : goal.decreases-loop-device
decreases-loop-device l = length l.rest
