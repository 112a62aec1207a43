use Rattle.std.proofs.Common.{◌≡◌, ◌+◌, ◌++◌, ◌∷◌, take}
use Rattle.std.specs.Prelude.{map}
use Rattle.ei_request.specs.DeviceTable.{numbered}
use Rattle.ei_request.proofs.held.HeldDevice.remember_ids.Given as goal

-- its own id, and those of the interfaces so far
abbrev pub invariant-loop-object : goal.invariant-loop-object
invariant-loop-object l =
    (l.ids.items ≡ l.fn.ids.items ++ numbered l.number (l.self.device.proxy.id ∷ map (λ o. o.id) (take l.object-index l.object-items)))
    × (l.ids.room + (l.object-index + 1) ≡ l.fn.ids.room)
