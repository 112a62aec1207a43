use Rattle.std.proofs.Common.{◌+◌, ◌*◌, sym, ap, ◌∙◌, length, arith}
use Rattle.ei_handshake.specs.declared.sizes.TheConstants.{MOST_VERSION_BYTES}
use Rattle.ei_handshake.specs.declared.server.TheConstants.{MOST_SETTLED_BYTES}
use Rattle.ei_handshake.specs.Handshaker.{sends, settled_in}
use Rattle.ei_handshake.proofs.Sending.{sends-nil, settled_pairs_more, settled_pairs_whole, sends_more}
use Rattle.ei_handshake.proofs.Room.{less_spare, spent}
use Rattle.ei_handshake.proofs.server.send_kept.Goals as goal

pub loop-interface-init : goal.loop-interface-init
loop-interface-init c = record { sends = sym (sends-nil _); spare = λ n h. less_spare (n + 0) n _ _ h (omega arith); within = omega arith }

pub loop-interface-preserved : goal.loop-interface-preserved
loop-interface-preserved c =
    let size = ap length c.known_interfaces-interfaces.ensures in
    let inv = c.loop-interface.invariant in
    let i = c.loop-interface.interface-index in
    record {
      sends = c.send_if_kept.ensures ∙ sends_more _ _ _ _ inv.sends
          ∙ ap (sends c.args.ctx.now) (sym (settled_pairs_more c.args.handshake.now.id (settled_in c.args.versions.now) c.known_interfaces-interfaces.result i _ (omega (arith, size, c.loop-interface-test.true))));
      spare = λ n h. spent _ _ _ _ _ n c.send_if_kept.ensures (inv.spare (n + MOST_VERSION_BYTES) (less_spare (n + MOST_VERSION_BYTES * (i + 1)) (n + MOST_VERSION_BYTES + MOST_VERSION_BYTES * i) _ _ h (omega arith)));
      within = omega (arith, c.loop-interface-test.true);
    }

pub send_if_kept-requires : goal.send_if_kept-requires
send_if_kept-requires c =
    c.loop-interface.invariant.spare MOST_VERSION_BYTES (less_spare MOST_SETTLED_BYTES (MOST_VERSION_BYTES + MOST_VERSION_BYTES * c.loop-interface.interface-index) _ _ c.requires (omega (arith, c.loop-interface-test.true)))

pub returns-clause-sends : goal.returns-clause-sends
returns-clause-sends c =
    c.loop-interface.invariant.sends
    ∙ ap (sends c.args.ctx.now) (settled_pairs_whole c.args.handshake.now.id (settled_in c.args.versions.now) c.known_interfaces-interfaces.result c.loop-interface.interface-index c.known_interfaces-interfaces.ensures c.loop-interface-test.false)

pub returns-clause-spare : goal.returns-clause-spare
returns-clause-spare c = λ n h. c.loop-interface.invariant.spare n (less_spare (n + MOST_SETTLED_BYTES) (n + MOST_VERSION_BYTES * c.loop-interface.interface-index) _ _ h (omega (arith, c.loop-interface.invariant.within)))
