use Rattle.ei_session.proofs.SettledMapLaws.{first_map, other_map}
use Rattle.ei_handshake.proofs.SettledLaws.{announced_kept, required_kept, events_kept}
use Rattle.ei_handshake.proofs.laws.settled_is_kept.Goals as goal

pub returns : goal.returns
returns c = record { first = first_map; announced = announced_kept; other = other_map; required = required_kept; events = events_kept }
