use Rattle.std.proofs.Common.{rules}
use Rattle.ei_spec.specs.Interface.{bytes_of}
use Rattle.ei_event.specs.Kept.{is_other}
use Rattle.ei_event.proofs.kept.Kept.device_gets.Goals as goal

pub put_retaining-requires-clause-decided : goal.put_retaining-requires-clause-decided
put_retaining-requires-clause-decided c = (is_other c.args.id (bytes_of c.in_ok-named.named.interface), λ value answer r. search rules)
