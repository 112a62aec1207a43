use Rattle.ei_playing.proofs.Law.{plays}
use Rattle.ei_playing.proofs.laws.played.Goals as goal

pub returns : goal.returns
returns c = plays
