use Rattle.ei_session.specs.Objects.{is_release}
use Rattle.ei_session.proofs.GoesByRelease.{release_gone, object_gone}
use Rattle.ei_session.proofs.objects_by_id.objects_gone.Goals as goal

pub returns : goal.returns
unfolding is_release
returns c = record { release = λ before m e id k r. release_gone before m e k r id; any = object_gone }
