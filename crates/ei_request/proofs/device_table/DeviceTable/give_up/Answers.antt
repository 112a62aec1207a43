use Rattle.std.proofs.Common.{false, sym, ap, ◌∙◌}
use Rattle.ei_request.specs.Held.{has_interface, without_interface}
use Rattle.ei_request.specs.DeviceTable.{values}
use Rattle.ei_request.proofs.FirstOnes.{changed_none}
use Rattle.ei_request.proofs.NumberedDevices.{first_found, none_found, written_first, values_written}
use Rattle.ei_request.proofs.TableKept.{table_given_up}
use Rattle.ei_request.proofs.device_table.DeviceTable.give_up.Goals.{then-self, else-self}
use Rattle.ei_request.proofs.device_table.DeviceTable.give_up.Goals as goal

pub returns-in_default : goal.returns-in_default
returns-in_default c =
    rw (← c.self.view_is) (sym (changed_none (has_interface c.args.id) (without_interface c.args.id) (values c.self.inside.held.items) (none_found (has_interface c.args.id) c.self.inside.held.items (sym c.number_of.ensures ∙ c.in_default.is))))

pub invariant_of-self : goal.invariant_of-self
invariant_of-self c =
    elim c.if-self.branch [
      | then-self w ↦ rw w.self-is (table_given_up c.self.inside.held.items c.self.inside.ids.items c.give_up-forgotten.new.ids.items c.self.inside.next c.in-Some.number c.args.id c.self.inside.exact c.give_up-forgotten.result c.give_up-forgotten.result c.in-Some-get_mut.device.now c.give_up-forgotten.new.self c.self.invariant (sym c.in-Some-get_mut.ensures.value) c.give_up-forgotten.ensures.gone c.give_up-forgotten.ensures.forgotten (λ e. (w.if-self.true, e)))
      | else-self w ↦ rw w.self-is (table_given_up c.self.inside.held.items c.self.inside.ids.items c.give_up-forgotten.new.ids.items c.self.inside.next c.in-Some.number c.args.id c.self.inside.exact c.give_up-forgotten.result c.self.inside.exact c.in-Some-get_mut.device.now c.give_up-forgotten.new.self c.self.invariant (sym c.in-Some-get_mut.ensures.value) c.give_up-forgotten.ensures.gone c.give_up-forgotten.ensures.forgotten (λ e. (let no = sym w.if-self.false ∙ e in absurd cc)))
    ]

pub returns-after-self : goal.returns-after-self
returns-after-self c =
    let hs = c.self.inside.held.items in
    let test = has_interface c.args.id in
    let is = sym c.number_of.ensures ∙ c.in-Some.is in
    let found = sym (first_found test hs 0 c.self.inside.next c.in-Some.number c.self.invariant.numbers is) ∙ sym c.in-Some-get_mut.ensures.value in
    rw (← c.self.view_is) (ap values (written_first test hs 0 c.self.inside.next c.in-Some.number c.give_up-forgotten.new.self c.self.invariant.numbers is) ∙ values_written test (without_interface c.args.id) hs c.in-Some-get_mut.device.now c.give_up-forgotten.new.self found c.give_up-forgotten.ensures.gone)

pub returns-in_default-get_mut : goal.returns-in_default-get_mut
returns-in_default-get_mut c =
    let hs = c.self.inside.held.items in
    let test = has_interface c.args.id in
    let is = sym c.number_of.ensures ∙ c.in-Some.is in
    rw (← c.self.view_is) (sym (changed_none test (without_interface c.args.id) (values hs) (sym (first_found test hs 0 c.self.inside.next c.in-Some.number c.self.invariant.numbers is) ∙ sym c.in_default-get_mut.ensures.value)))
