use Rattle.std.proofs.Common.{◌≡◌, take}
use Rattle.ei_request.specs.Making.{setup_room}
use Rattle.ei_request.proofs.making.items_bytes.Given as goal

-- the bytes of the items so far
abbrev pub invariant-loop-item : goal.invariant-loop-item
invariant-loop-item l = l.bytes ≡ setup_room (take l.item-index l.setup)
