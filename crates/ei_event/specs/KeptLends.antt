-- What the seats and the devices end as, where a `&mut` to one is returned.
use Rattle.std.specs.Prelude.{ℕ, Option}
use Rattle.std.specs.Ordering.{nat_cmp}
use Rattle.std.specs.FinMap as finite
use Rattle.std.specs.Borrow.{LendsIf, Fml, MutBor}
use Rattle.ei_by_id.specs.contracts.ById.{the_row}
use Rattle.ei_event.specs.Kept.{SeatView, DeviceView}
use Rattle.ei_event.specs.contracts.kept_seat.KeptSeat as seat
use Rattle.ei_event.specs.contracts.kept_device.KeptDevice as device

-- once the borrow r ends, the id has the seat that was left behind r; at `None` the seats stay as they are
abbrev pub lends_seat : MutBor (finite.FinMap nat_cmp SeatView) → ℕ → Option (MutBor SeatView) → Fml
lends_seat m id r = LendsIf (the_row seat.the_row) seat.the_row m r (λ w. finite.insert m.now id w) m.now

-- the same of the devices
abbrev pub lends_device : MutBor (finite.FinMap nat_cmp DeviceView) → ℕ → Option (MutBor DeviceView) → Fml
lends_device m id r = LendsIf (the_row device.the_row) device.the_row m r (λ w. finite.insert m.now id w) m.now
