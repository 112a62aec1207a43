use Rattle.ei_reported.proofs.ItemsAndSerials.{serial_seat_goes, serial_device_tells, serial_device_goes, serial_modifiers, serial_goes, serial_other}
use Rattle.ei_reported.proofs.ItemsAndSerials.{serial_first}
use Rattle.ei_reported.proofs.rows.serials.Goals as goal

pub returns : goal.returns
returns c = record {
  seat_goes = serial_seat_goes;
  device_tells = serial_device_tells;
  device_goes = serial_device_goes;
  modifiers = serial_modifiers;
  goes = serial_goes;
  other = serial_other;
  first = serial_first;
}
