use Rattle.std.proofs.Common.{◌∷◌, take}
use Rattle.std.specs.Prelude.{map}
use Rattle.ei_request.specs.DeviceTable.{Forgets}
use Rattle.ei_request.proofs.held.HeldDevice.forget_ids.Given as goal

-- its own id, and those of the interfaces so far
abbrev pub invariant-loop-object : goal.invariant-loop-object
invariant-loop-object l = Forgets l.number (l.self.device.proxy.id ∷ map (λ o. o.id) (take l.object-index l.object-items)) l.fn.ids.items l.ids.items
