use Rattle.ei_session.proofs.Placed.{object_placed, object_owned}
use Rattle.ei_session.proofs.objects_by_id.objects_placed.Goals as goal

pub returns : goal.returns
returns c = record {
  home = λ before id e k b. (object_placed before id e k).at_home b;
  bare = λ before id e k. (object_placed before id e k).owned;
  owned = object_owned;
}
