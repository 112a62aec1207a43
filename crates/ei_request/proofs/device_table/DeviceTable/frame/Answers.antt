use Rattle.std.proofs.Common.{sym, ap, ◌∙◌, refl}
use Rattle.std.proofs.lemmas.Result.{on_ok_weaker, on_err_weaker}
use Rattle.ei_request.specs.Held.{is_device, emptied}
use Rattle.ei_request.specs.DeviceTable.{values, own_ids}
use Rattle.ei_request.proofs.FirstOnes.{changed_none}
use Rattle.ei_request.proofs.NumberedDevices.{values_written, same_written}
use Rattle.ei_request.proofs.TableKept.{table_written, framed_ids}
use Rattle.ei_request.proofs.device_table.DeviceTable.frame.Goals.{in-Some, in-None}
use Rattle.ei_request.proofs.device_table.DeviceTable.frame.Goals as goal

pub invariant_of-self : goal.invariant_of-self
invariant_of-self c =
    let hs = c.self.inside.held.items in
    elim c.match-sought_mut.branch [
      | in-Some w ↦ rw w.self-inside-is (table_written (is_device c.args.id) hs c.self.inside.ids.items c.self.inside.next c.self.inside.exact w.in-Some.device.now w.frame.new.self c.self.invariant (sym w.in-Some.ensures.value) (framed_ids w.frame.result w.in-Some.device.now w.frame.new.self w.frame.ensures.ok w.frame.ensures.err))
      | in-None w ↦ rw w.self-inside-is c.self.invariant
    ]

pub returns-clause-ok : goal.returns-clause-ok
returns-clause-ok c =
    let hs = c.self.inside.held.items in
    let test = is_device c.args.id in
    elim c.match-sought_mut.branch [
      | in-Some w ↦ rw (w.result-is, w.self-inside-is, ← c.self.view_is) (on_ok_weaker w.frame.result (λ e. values_written test emptied hs w.in-Some.device.now w.frame.new.self (sym w.in-Some.ensures.value) e) w.frame.ensures.ok)
      | in-None w ↦ rw (w.result-is, w.self-inside-is, ← c.self.view_is) (sym (changed_none test emptied (values hs) (sym w.in-None.ensures.value)))
    ]

pub returns-clause-err : goal.returns-clause-err
returns-clause-err c =
    let hs = c.self.inside.held.items in
    let test = is_device c.args.id in
    elim c.match-sought_mut.branch [
      | in-Some w ↦ rw (w.result-is, w.self-inside-is, ← c.self.view_is) (on_err_weaker w.frame.result (λ e. same_written test hs w.in-Some.device.now w.frame.new.self (sym w.in-Some.ensures.value) e) w.frame.ensures.err)
      | in-None w ↦ rw w.result-is tt
    ]
