use Rattle.std.proofs.Common.{◌≡◌, ◌++◌, take}
use Rattle.ei_request.specs.Held.{all_seat_ids}
use Rattle.ei_request.proofs.holding.push_all_ids.Given as goal

-- the ids of the seats so far
abbrev pub invariant-loop-seat : goal.invariant-loop-seat
invariant-loop-seat l = l.ids.items ≡ l.fn.ids.items ++ all_seat_ids l.devices.items (take l.seat-index l.seats)
