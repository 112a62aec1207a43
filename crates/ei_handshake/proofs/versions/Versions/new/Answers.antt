use Rattle.std.proofs.Common.{refl}
use Rattle.ei_spec.specs.NameMap.{map_of}
use Rattle.ei_handshake.proofs.versions.Versions.new.Goals as goal

pub returns : goal.returns
unfolding map_of
returns c = rw c.new.ensures.empty refl
