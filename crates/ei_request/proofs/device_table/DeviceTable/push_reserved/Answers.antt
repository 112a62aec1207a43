use Rattle.ei_request.proofs.TableKept.{table_push}
use Rattle.ei_request.proofs.device_table.DeviceTable.push_reserved.Goals as goal

pub invariant_of-self : goal.invariant_of-self
invariant_of-self c = rw (c.push_reserved.ensures.items, c.remember_ids.ensures) (table_push c.self.inside.held.items c.self.inside.ids.items c.self.inside.next c.self.inside.exact c.args.device c.self.invariant)
