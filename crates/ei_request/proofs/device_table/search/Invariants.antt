use Rattle.std.proofs.Common.{◌≡◌, length}
use Rattle.ei_request.specs.DeviceTable.{number_of, fits}
use Rattle.ei_request.proofs.device_table.search.Given as goal

-- the first is among those that are left
abbrev pub invariant-loop-number : goal.invariant-loop-number
invariant-loop-number l = number_of (fits l.sought) l.rest ≡ number_of (fits l.sought) l.held.items

abbrev pub decreases-loop-number : goal.decreases-loop-number
decreases-loop-number l = length l.rest
