use Rattle.std.proofs.Common.{sym, ◌∙◌}
use Rattle.ei_request.specs.DeviceTable.{fits}
use Rattle.ei_request.proofs.NumberedDevices.{first_found, none_found}
use Rattle.ei_request.proofs.device_table.DeviceTable.get.Goals as goal

pub returns-in-Some : goal.returns-in-Some
returns-in-Some c = rw (← c.self.view_is) (c.get.ensures ∙ first_found (fits c.args.sought) c.self.inside.held.items 0 c.self.inside.next c.in-Some.number c.self.invariant.numbers (sym c.number_of.ensures ∙ c.in-Some.is))

pub returns-in-None : goal.returns-in-None
returns-in-None c = rw (← c.self.view_is) (sym (none_found (fits c.args.sought) c.self.inside.held.items (sym c.number_of.ensures ∙ c.in-None.is)))
