use Rattle.std.proofs.Common.{◌≡◌, ℕ, sym, ◌∙◌, arith}
use Rattle.ei_types.specs.Capability.{bits_of}
use Rattle.ei_player.proofs.Announcing.{told_none, hears, told_placed, kept_placed, told_all}
use Rattle.ei_player.proofs.objects.announce_device.Goals.{then-has+in_ok-announce_interface, else-has}
use Rattle.ei_player.proofs.objects.announce_device.Goals as goal

pub announce_interface-requires : goal.announce_interface-requires
announce_interface-requires c = hears c.args.device (bits_of c.args.capabilities) c.loop-at.at c.loop-at.next c.args.client.now c.loop-at.client c.loop-at.invariant c.requires c.loop-at-test.true

pub loop-at-init : goal.loop-at-init
loop-at-init c = rw (c.in_ok-announce.ensures) (told_none c.args.device (bits_of c.args.capabilities) _ c.args.client.now)

pub loop-at-preserved : goal.loop-at-preserved
loop-at-preserved c = elim c.if-has.branch [
  | then-has+in_ok-announce_interface w ↦ rw (w.next-is, w.client-is, w.in_ok-announce_interface.ensures) (told_placed c.args.device (bits_of c.args.capabilities) c.loop-at.at c.loop-at.next c.args.client.now c.loop-at.client c.loop-at.invariant _ _ c.loop-at-test.true (sym c.has.ensures ∙ w.if-has.true))
  | else-has w ↦ rw (w.next-is, w.client-is) (kept_placed c.args.device (bits_of c.args.capabilities) c.loop-at.at c.loop-at.next c.args.client.now c.loop-at.client c.loop-at.invariant _ c.loop-at-test.true (sym c.has.ensures ∙ w.if-has.false))
]

pub returns : goal.returns
returns c = told_all c.args.device (bits_of c.args.capabilities) c.loop-at.at c.loop-at.next c.args.client.now c.loop-at.client c.loop-at.invariant (omega (arith, c.loop-at-test.false, c.loop-at.auto.at-end))
