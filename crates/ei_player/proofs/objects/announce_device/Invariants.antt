use Rattle.ei_types.specs.Capability.{bits_of}
use Rattle.ei_player.proofs.Announcing.{ToldSoFar}
use Rattle.ei_player.proofs.objects.announce_device.Given as goal

abbrev pub invariant-loop-at : goal.invariant-loop-at
invariant-loop-at l = ToldSoFar l.device (bits_of l.capabilities) l.at l.next l.fn.client l.client
