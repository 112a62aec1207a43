use Rattle.std.proofs.Common.{sym, ap, ◌∙◌, refl}
use Rattle.ei_request.specs.Held.{is_of_key, untouched}
use Rattle.ei_request.specs.DeviceTable.{values, own_ids}
use Rattle.ei_request.proofs.FirstOnes.{changed_none}
use Rattle.ei_request.proofs.NumberedDevices.{values_written}
use Rattle.ei_request.proofs.TableKept.{table_written}
use Rattle.ei_request.proofs.device_table.DeviceTable.clear_touches.Goals.{in-Some, in_default}
use Rattle.ei_request.proofs.device_table.DeviceTable.clear_touches.Goals as goal

pub invariant_of-self : goal.invariant_of-self
invariant_of-self c = elim c.match-sought_mut.branch [
  | in-Some w ↦ rw w.self-inside-is (table_written (is_of_key c.args.device.now) c.self.inside.held.items c.self.inside.ids.items c.self.inside.next c.self.inside.exact w.in-Some.held.now w.clear_touches.new.self c.self.invariant (sym w.in-Some.ensures.value) (ap own_ids w.clear_touches.ensures))
  | in_default w ↦ rw w.self-inside-is c.self.invariant
]

pub returns : goal.returns
returns c = elim c.match-sought_mut.branch [
  | in-Some w ↦ rw (w.self-inside-is, ← c.self.view_is) (values_written (is_of_key c.args.device.now) untouched c.self.inside.held.items w.in-Some.held.now w.clear_touches.new.self (sym w.in-Some.ensures.value) w.clear_touches.ensures)
  | in_default w ↦ rw (w.self-inside-is, ← c.self.view_is) (sym (changed_none (is_of_key c.args.device.now) untouched (values c.self.inside.held.items) (sym w.in_default.ensures.value)))
]
