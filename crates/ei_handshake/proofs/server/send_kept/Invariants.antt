use Rattle.std.proofs.Common.{◌≡◌, ℕ, ◌+◌, ◌*◌, ◌≤◌, take}
use Rattle.ei_spec.specs.declared.limits.TheConstants.{SETTLED_INTERFACES}
use Rattle.ei_backend.specs.Backend.{unsent_of}
use Rattle.ei_backend.specs.Outgoing.{HasSpare}
use Rattle.ei_handshake.specs.declared.sizes.TheConstants.{MOST_VERSION_BYTES}
use Rattle.ei_handshake.specs.Handshaker.{settled_in, sends}
use Rattle.ei_handshake.proofs.Sending.{settled_pairs}
use Rattle.ei_handshake.proofs.server.send_kept.Given as goal

-- the events of the interfaces so far, and the room for the others
abbrev pub invariant-loop-interface : goal.invariant-loop-interface
invariant-loop-interface l = record {
  sends : l.ctx ≡ sends l.fn.ctx (settled_pairs l.handshake.id (settled_in l.versions) (take l.interface-index l.interface-items));
  spare : (n : ℕ) → HasSpare (n + MOST_VERSION_BYTES * l.interface-index) 0 (unsent_of l.fn.ctx) l.fn.ctx.room → HasSpare n 0 (unsent_of l.ctx) l.ctx.room;
  within : l.interface-index ≤ SETTLED_INTERFACES;
}
