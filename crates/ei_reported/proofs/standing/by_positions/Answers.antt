use Rattle.ei_reported.proofs.ByPositions.{seat_pending_by, seat_added_by, device_pending_by, device_typed_at, device_added_by, is_held_by}
use Rattle.ei_reported.proofs.standing.by_positions.Goals as goal

pub returns : goal.returns
returns c = record {
  seat_pending = seat_pending_by;
  seat_added = seat_added_by;
  device_pending = device_pending_by;
  device_typed = device_typed_at;
  device_added = device_added_by;
  is_held = is_held_by;
}
