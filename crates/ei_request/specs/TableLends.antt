-- What the devices end as, where one is lent.
use Rattle.std.specs.Prelude.{Option}
use Rattle.std.specs.Borrow.{LendsIf, Fml, MutBor}
use Rattle.ei_keyed.specs.Keyed.{KeyedView}
use Rattle.ei_keyed.specs.contracts.Keyed.{the_row}
use Rattle.ei_request.specs.Held.{DeviceView}
use Rattle.ei_request.specs.DeviceTable.{fits, with_first}
use Rattle.ei_request.specs.contracts.held.HeldDevice as held
use Rattle.ei_request.specs.declared.device_table.Sought.{Sought}

-- once the borrow r ends, the device that was sought is the one left behind r; at `None` the devices stay as they are
abbrev pub lends_sought : MutBor (KeyedView DeviceView) → Sought → Option (MutBor DeviceView) → Fml
lends_sought h sought r = LendsIf (the_row held.the_row) held.the_row h r (λ w. record h.now { items = with_first (fits sought) h.now.items w }) h.now
