use Rattle.std.proofs.Common.{false, sym, ap, ◌∙◌}
use Rattle.ei_request.specs.Held.{is_of_key}
use Rattle.ei_request.specs.DeviceTable.{values}
use Rattle.ei_request.proofs.FirstOnes.{unremoved}
use Rattle.ei_request.proofs.NumberedDevices.{none_found, taken_first}
use Rattle.ei_request.proofs.TableKept.{table_without}
use Rattle.ei_request.proofs.device_table.DeviceTable.take_out.Goals.{then-self, else-self}
use Rattle.ei_request.proofs.device_table.DeviceTable.take_out.Goals as goal

pub returns-in_default : goal.returns-in_default
returns-in_default c =
    rw (← c.self.view_is) (sym (unremoved (is_of_key c.args.device.now) (values c.self.inside.held.items) (none_found (is_of_key c.args.device.now) c.self.inside.held.items (sym c.number_of.ensures ∙ c.in_default.is))))

pub invariant_of-self : goal.invariant_of-self
invariant_of-self c = elim c.if-self.branch [
  | then-self w ↦ rw (w.self-is, c.take.ensures.others) (table_without c.self.inside.held.items c.self.inside.ids.items c.forget-forgotten.new.ids.items c.self.inside.next c.in-Some.number c.self.inside.exact c.forget-forgotten.result c.forget-forgotten.result c.self.invariant c.forget-forgotten.ensures (λ e. (w.if-self.true, e)))
  | else-self w ↦ rw (w.self-is, c.take.ensures.others) (table_without c.self.inside.held.items c.self.inside.ids.items c.forget-forgotten.new.ids.items c.self.inside.next c.in-Some.number c.self.inside.exact c.forget-forgotten.result c.self.inside.exact c.self.invariant c.forget-forgotten.ensures (λ e. (let no = sym w.if-self.false ∙ e in absurd cc)))
]

pub returns : goal.returns
returns c =
    let is = sym c.number_of.ensures ∙ c.in-Some.is in
    rw (← c.self.view_is, c.take.ensures.others) (taken_first (is_of_key c.args.device.now) c.self.inside.held.items 0 c.self.inside.next c.in-Some.number c.self.invariant.numbers is)
