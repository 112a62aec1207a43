-- What was made is as the pair says.
use Rattle.ei_emit.proofs.Calling.{has_made}
use Rattle.ei_emit.proofs.performing.tell.Goals as goal

pub returns-in-Ok : goal.returns-in-Ok
returns-in-Ok g c = has_made c.args.call c.args.pair.now c.server_do.new.self c.in-Ok.made c.requires.server c.requires.serves c.in-Ok.ensures.does c.in-Ok.ensures.memory c.in-Ok.ensures.sends
