use Rattle.std.proofs.Common.{refl}
use Rattle.reis_eis.proofs.Starting.{handshake_there, greets}
use Rattle.reis_eis.proofs.shaking.Shaking.start.Goals as goal

pub new-requires-2 : goal.new-requires-2
new-requires-2 c = handshake_there _ c.in_ok-context.ensures

pub returns : goal.returns
returns c = rw (greets _ _ c.in_ok-context.ensures c.in_ok-handshaker.ensures.greets, c.in_ok-handshaker.ensures.fresh) refl
