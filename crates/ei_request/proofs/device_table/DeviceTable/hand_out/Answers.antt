use Rattle.std.proofs.Common.{sym, ap, ◌∙◌, refl}
use Rattle.ei_request.specs.Held.{is_device, emptied}
use Rattle.ei_request.specs.DeviceTable.{values, own_ids}
use Rattle.ei_request.proofs.FirstOnes.{changed_none}
use Rattle.ei_request.proofs.NumberedDevices.{values_written}
use Rattle.ei_request.proofs.TableKept.{table_written}
use Rattle.ei_request.proofs.device_table.DeviceTable.hand_out.Goals.{in-Some, in_default}
use Rattle.ei_request.proofs.device_table.DeviceTable.hand_out.Goals as goal

pub invariant_of-self : goal.invariant_of-self
invariant_of-self c = elim c.match-sought_mut.branch [
  | in-Some w ↦ rw w.self-inside-is (table_written (is_device c.args.id) c.self.inside.held.items c.self.inside.ids.items c.self.inside.next c.self.inside.exact w.in-Some.device.now w.hand_out.new.self c.self.invariant (sym w.in-Some.ensures.value) (ap own_ids w.hand_out.ensures.emptied))
  | in_default w ↦ rw w.self-inside-is c.self.invariant
]

pub returns-clause-ok : goal.returns-clause-ok
returns-clause-ok c = elim c.match-sought_mut.branch [
  | in-Some w ↦ rw (w.self-inside-is, ← c.self.view_is) (values_written (is_device c.args.id) emptied c.self.inside.held.items w.in-Some.device.now w.hand_out.new.self (sym w.in-Some.ensures.value) w.hand_out.ensures.emptied)
  | in_default w ↦ rw (w.self-inside-is, ← c.self.view_is) (sym (changed_none (is_device c.args.id) emptied (values c.self.inside.held.items) (sym w.in_default.ensures.value)))
]
