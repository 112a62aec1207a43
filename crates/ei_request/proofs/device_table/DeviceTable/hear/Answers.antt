use Rattle.std.proofs.Common.{sym, ap, ◌∙◌, refl}
use Rattle.std.proofs.lemmas.Result.{on_ok_weaker, on_err_weaker}
use Rattle.std.specs.Option.{option_copied_mut}
use Rattle.ei_request.specs.Held.{has_interface, takes_input}
use Rattle.ei_request.specs.DeviceTable.{values}
use Rattle.ei_request.proofs.FirstOnes.{changed_none}
use Rattle.ei_request.proofs.NumberedDevices.{values_written, same_written}
use Rattle.ei_request.proofs.TableKept.{table_written, heard_ids}
use Rattle.ei_request.proofs.device_table.DeviceTable.hear.Goals.{in-Some, in-None+in-TextUtf8+in-Other-1, in-None+in-TextUtf8+in-Name-1, in-None+in-PointerMotion-1}
use Rattle.ei_request.proofs.device_table.DeviceTable.hear.Goals as goal

pub invariant_of-self : goal.invariant_of-self
invariant_of-self c =
    let hs = c.self.inside.held.items in
    let test = has_interface c.args.id in
    elim c.match-sought_mut.branch [
      | in-Some w ↦ rw w.self-inside-is (table_written test hs c.self.inside.ids.items c.self.inside.next c.self.inside.exact w.in-Some.device.now w.take.new.self c.self.invariant (sym w.in-Some.ensures.value) (heard_ids w.take.result c.args.input w.in-Some.device.now w.take.new.self w.take.ensures.ok w.take.ensures.err))
      | in-None+in-TextUtf8+in-Other-1 w ↦ rw w.self-inside-is c.self.invariant
      | in-None+in-TextUtf8+in-Name-1 w ↦ rw w.self-inside-is c.self.invariant
      | in-None+in-PointerMotion-1 w ↦ rw w.self-inside-is c.self.invariant
    ]

pub returns-clause-ok : goal.returns-clause-ok
returns-clause-ok c =
    let hs = c.self.inside.held.items in
    let test = has_interface c.args.id in
    elim c.match-sought_mut.branch [
      | in-Some w ↦ rw (w.result-is, w.self-inside-is, ← c.self.view_is) (on_ok_weaker w.take.result (λ e. values_written test (takes_input c.args.input) hs w.in-Some.device.now w.take.new.self (sym w.in-Some.ensures.value) e) w.take.ensures.ok)
      | in-None+in-TextUtf8+in-Other-1 w ↦ rw (w.result-is, w.self-inside-is, ← c.self.view_is) (sym (changed_none test (takes_input c.args.input) (values hs) (sym w.in-None.ensures.value)))
      | in-None+in-TextUtf8+in-Name-1 w ↦ rw (w.result-is, w.self-inside-is, ← c.self.view_is) (sym (changed_none test (takes_input c.args.input) (values hs) (sym w.in-None.ensures.value)))
      | in-None+in-PointerMotion-1 w ↦ rw (w.result-is, w.self-inside-is, ← c.self.view_is) (sym (changed_none test (takes_input c.args.input) (values hs) (sym w.in-None.ensures.value)))
    ]

pub returns-clause-err : goal.returns-clause-err
returns-clause-err c =
    let hs = c.self.inside.held.items in
    let test = has_interface c.args.id in
    elim c.match-sought_mut.branch [
      | in-Some w ↦ rw (w.result-is, w.self-inside-is, ← c.self.view_is) (on_err_weaker w.take.result (λ e. same_written test hs w.in-Some.device.now w.take.new.self (sym w.in-Some.ensures.value) e) w.take.ensures.err)
      | in-None+in-TextUtf8+in-Other-1 w ↦ rw w.result-is tt
      | in-None+in-TextUtf8+in-Name-1 w ↦ rw w.result-is tt
      | in-None+in-PointerMotion-1 w ↦ rw w.result-is tt
    ]
