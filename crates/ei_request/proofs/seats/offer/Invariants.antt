use Rattle.std.proofs.Common.{◌≡◌, take}
use Rattle.ei_types.specs.Capability.{bits_of}
use Rattle.ei_handshake.specs.Handshaker.{sends}
use Rattle.ei_request.specs.Connection.{is_settled}
use Rattle.ei_request.specs.Costs.{Spends, times, capability_cost}
use Rattle.ei_request.proofs.Offering.{offers}
use Rattle.ei_request.proofs.seats.offer.Given as goal

-- the events of the capabilities so far, and room for the others
abbrev pub invariant-loop-one : goal.invariant-loop-one
invariant-loop-one l = record {
  offered : l.ctx ≡ sends l.fn.ctx (offers l.seat.id (bits_of l.capabilities) (is_settled l.versions) (take l.one-index l.one-items));
  spends : Spends (times l.one-index capability_cost) l.fn.ctx l.ctx;
}
