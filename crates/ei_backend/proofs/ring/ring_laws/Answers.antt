use Rattle.ei_backend.proofs.RingLaws.{grown_stays, grown_doubled, grown_room, grown_least, grown_bounded}
use Rattle.ei_backend.proofs.ring.ring_laws.Goals as goal

pub returns : goal.returns
returns c = record { stays = grown_stays; doubled = grown_doubled; room = grown_room; least = grown_least; bounded = grown_bounded }
