use Rattle.std.proofs.Common.{◌≡◌, ◌++◌, take}
use Rattle.std.specs.Prelude.{map}
use Rattle.ei_request.proofs.held.HeldDevice.push_ids.Given as goal

-- the ids of the interfaces so far
abbrev pub invariant-loop-object : goal.invariant-loop-object
invariant-loop-object l = l.ids.items ≡ l.fn.ids.items ++ map (λ o. o.id) (take l.object-index l.object-items)
