use Rattle.std.proofs.Common.{◌+◌, ◌*◌, sym, ap, ◌∙◌, length, arith}
use Rattle.ei_handshake.specs.declared.sizes.TheConstants.{MOST_VERSION_BYTES}
use Rattle.ei_handshake.specs.declared.client.TheConstants.{MOST_VERSIONS_BYTES}
use Rattle.ei_handshake.specs.Handshaker.{sends}
use Rattle.ei_handshake.proofs.Sending.{sends-nil, sends_more}
use Rattle.ei_handshake.proofs.Room.{less_spare}
use Rattle.ei_handshake.proofs.Greeting.{told_versions_more, told_versions_whole, spent_told}
use Rattle.ei_handshake.proofs.client.announce_all.Goals as goal

pub loop-interface-init : goal.loop-interface-init
loop-interface-init c = record { sends = sym (sends-nil _); spare = λ n h. less_spare (n + 0) n _ _ h (omega arith); within = omega arith }

pub loop-interface-preserved : goal.loop-interface-preserved
loop-interface-preserved c =
    let size = ap length c.known_interfaces-interfaces.ensures in
    let inv = c.loop-interface.invariant in
    let i = c.loop-interface.interface-index in
    record {
      sends = c.announce.ensures ∙ sends_more _ _ _ _ inv.sends
          ∙ ap (sends c.args.ctx.now) (sym (told_versions_more c.args.handshake.now.id c.known_interfaces-interfaces.result i _ (omega (arith, size, c.loop-interface-test.true))));
      spare = λ n h. spent_told _ _ _ _ n c.announce.ensures
          (inv.spare (n + MOST_VERSION_BYTES) (less_spare (n + MOST_VERSION_BYTES * (i + 1)) (n + MOST_VERSION_BYTES + MOST_VERSION_BYTES * i) _ _ h (omega arith)));
      within = omega (arith, c.loop-interface-test.true);
    }

pub announce-requires : goal.announce-requires
announce-requires c =
    c.loop-interface.invariant.spare MOST_VERSION_BYTES (less_spare MOST_VERSIONS_BYTES (MOST_VERSION_BYTES + MOST_VERSION_BYTES * c.loop-interface.interface-index) _ _ c.requires (omega (arith, c.loop-interface-test.true)))

pub returns-clause-sends : goal.returns-clause-sends
returns-clause-sends c =
    c.loop-interface.invariant.sends
    ∙ ap (sends c.args.ctx.now) (told_versions_whole c.args.handshake.now.id c.known_interfaces-interfaces.result c.loop-interface.interface-index c.known_interfaces-interfaces.ensures c.loop-interface-test.false)

pub returns-clause-spare : goal.returns-clause-spare
returns-clause-spare c = λ n h. c.loop-interface.invariant.spare n (less_spare (n + MOST_VERSIONS_BYTES) (n + MOST_VERSION_BYTES * c.loop-interface.interface-index) _ _ h (omega (arith, c.loop-interface.invariant.within)))
