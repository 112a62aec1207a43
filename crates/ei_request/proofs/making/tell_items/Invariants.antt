use Rattle.std.proofs.Common.{◌≡◌, take}
use Rattle.ei_spec.specs.declared.interface.KnownInterface.TheVariants as known
use Rattle.ei_backend.specs.Endpoint.{endpoint_of}
use Rattle.ei_request.specs.Costs.{Spends}
use Rattle.ei_request.specs.Making.{object_of, setup_room, tells_items}
use Rattle.ei_request.proofs.making.tell_items.Given as goal

-- the items so far are told, and the room for the others is left
abbrev pub invariant-loop-item : goal.invariant-loop-item
invariant-loop-item l = record {
  done : endpoint_of l.ctx ≡ tells_items (endpoint_of l.fn.ctx) l.device.id (object_of known.Keyboard l.objects) (take l.item-index l.setup);
  spends : Spends (record { bytes = setup_room (take l.item-index l.setup); handles = l.item-index; objects = 0 }) l.fn.ctx l.ctx;
}
