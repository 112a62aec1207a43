use Rattle.std.proofs.Common.{◌≡◌, take}
use Rattle.ei_backend.specs.Endpoint.{endpoint_of}
use Rattle.ei_request.specs.Costs.{Spends, times, destroyed_cost}
use Rattle.ei_request.specs.Sending.{destroys_all, serial_after}
use Rattle.ei_request.proofs.sending.destroy_each.Given as goal

-- the objects so far are gone, and the room for the others is left
abbrev pub invariant-loop-id : goal.invariant-loop-id
invariant-loop-id l = record {
  gone : endpoint_of l.ctx ≡ destroys_all (endpoint_of l.fn.ctx) l.serial (take l.id-index l.ids);
  serial : l.last ≡ serial_after l.serial (take l.id-index l.ids);
  spends : Spends (times l.id-index destroyed_cost) l.fn.ctx l.ctx;
}
