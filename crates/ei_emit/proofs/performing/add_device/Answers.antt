-- The seat is held.
use Rattle.std.proofs.Common.{refl, rules}
use Rattle.ei_emit.proofs.Adding.{may_add}
use Rattle.ei_emit.proofs.performing.add_device.Goals as goal

pub tell-requires : goal.tell-requires
tell-requires g c = may_add c.args.seat.now c.args.capabilities _ c.args.pair.now (search rules, refl, refl, refl) c.requires
