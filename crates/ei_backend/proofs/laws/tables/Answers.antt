use Rattle.std.proofs.Common.{refl}
use Rattle.ei_backend.proofs.GivenOnce.{own_found, own_others, accepted_is, peer_found, peer_others, gone, gone_others, under_its_id, known, given_once}
use Rattle.ei_backend.proofs.FoundAfter.{accepts}
use Rattle.ei_backend.proofs.laws.tables.Goals as goal

pub returns : goal.returns
returns c = record {
  own_id = λ t interface version. refl;
  own_found = own_found;
  own_others = own_others;
  peer_id = λ t u id version interface o e. let a = accepted_is t u id version interface o e in (a.low, a.high, rw a.table refl);
  accepts = accepts;
  peer_found = peer_found;
  peer_others = peer_others;
  removed = gone;
  removed_others = gone_others;
  under_its_id = under_its_id;
  known = known;
  given_once = given_once;
}
