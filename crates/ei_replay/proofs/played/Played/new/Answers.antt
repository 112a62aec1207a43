use Rattle.std.proofs.Common.{refl}
use Rattle.ei_replay.proofs.Goes.{none_stand}
use Rattle.ei_replay.proofs.played.Played.new.Goals as goal

pub returns-clause-stands : goal.returns-clause-stands
returns-clause-stands c = none_stand _ refl refl c.new.ensures refl
