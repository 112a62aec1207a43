-- No handler was called before its time.
use Rattle.ei_pair.proofs.pair.Pair.converter.Goals as goal

pub returns-clause-in_time : goal.returns-clause-in_time
returns-clause-in_time g c = rw (← c.self.view_is) (c.promises.ensures.in_time _ c.self.invariant.sound.kept.keeps)
