use Rattle.std.proofs.Common.{◌≡◌, ℕ, ◌+◌, ◌*◌, ◌≤◌, take}
use Rattle.ei_spec.specs.declared.limits.TheConstants.{SETTLED_INTERFACES}
use Rattle.ei_backend.specs.Backend.{unsent_of}
use Rattle.ei_backend.specs.Outgoing.{HasSpare}
use Rattle.ei_handshake.specs.declared.sizes.TheConstants.{MOST_VERSION_BYTES}
use Rattle.ei_handshake.specs.Handshaker.{sends}
use Rattle.ei_handshake.proofs.Greeting.{told_versions}
use Rattle.ei_handshake.proofs.client.announce_all.Given as goal

-- the requests of the interfaces so far, and the room for the others
abbrev pub invariant-loop-interface : goal.invariant-loop-interface
invariant-loop-interface l = record {
  sends : l.ctx ≡ sends l.fn.ctx (told_versions l.handshake.id (take l.interface-index l.interface-items));
  spare : (n : ℕ) → HasSpare (n + MOST_VERSION_BYTES * l.interface-index) 0 (unsent_of l.fn.ctx) l.fn.ctx.room → HasSpare n 0 (unsent_of l.ctx) l.ctx.room;
  within : l.interface-index ≤ SETTLED_INTERFACES;
}
