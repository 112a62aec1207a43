use Rattle.std.proofs.Common.{rules, sym, ap, ◌∙◌}
use Rattle.std.specs.Prelude.{not}
use Rattle.ei_keyed.specs.Keyed.{keyed}
use Rattle.ei_request.specs.Held.{DeviceView, is_of_seat}
use Rattle.ei_request.specs.DeviceTable.{stays, values}
use Rattle.ei_request.proofs.NumberedDevices.{values_filter}
use Rattle.ei_request.proofs.TableKept.{table_stay}
use Rattle.ei_request.proofs.device_table.DeviceTable.take_out_of_seat.Goals as goal

pub invariant_of-self : goal.invariant_of-self
invariant_of-self c =
    let ids = c.retain.ensures.items (λ n. stays c.args.seat (keyed n c.self.inside.held.items)) (λ v a k. search rules) in
    let held = c.retain-2.ensures.items (λ (d : DeviceView). not (is_of_seat c.args.seat d)) (λ v a k. search rules) in
    rw (ids, held) (table_stay c.args.seat c.self.inside.held.items c.self.inside.ids.items c.self.inside.next c.self.inside.exact c.self.invariant)

pub returns : goal.returns
returns c =
    let held = c.retain-2.ensures.items (λ (d : DeviceView). not (is_of_seat c.args.seat d)) (λ v a k. search rules) in
    rw (← c.self.view_is) (ap values held ∙ values_filter (λ (d : DeviceView). not (is_of_seat c.args.seat d)) c.self.inside.held.items)
