use Rattle.std.proofs.Common.{refl, ap}
use Rattle.ei_types.specs.Capability.{bits_of}
use Rattle.ei_replay.proofs.player.Player.new.Goals as goal

pub returns : goal.returns
returns c = record {
  limit = refl;
  greeted = c.in_ok-client.ensures;
  fresh = c.in_ok-session.ensures;
  sums = c.new.ensures.stands;
  same = ap bits_of c.new.ensures.capabilities;
}
