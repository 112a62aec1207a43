use Rattle.ei_reported.proofs.ItemsAndSerials.{item_disconnects, item_seat_done, item_seat_goes, item_device_done, item_device_tells}
use Rattle.ei_reported.proofs.ItemsAndSerials.{item_device_goes, item_input, item_modifiers, item_other}
use Rattle.ei_reported.proofs.rows.items.Goals as goal

pub returns : goal.returns
returns c = record {
  disconnects = item_disconnects;
  seat_done = item_seat_done;
  seat_goes = item_seat_goes;
  device_done = item_device_done;
  device_tells = item_device_tells;
  device_goes = item_device_goes;
  input = item_input;
  modifiers = item_modifiers;
  other = item_other;
}
