-- Bytes go, as the parts say.
use Rattle.std.proofs.Common.{ap, ◌∙◌}
use Rattle.ei_promises.specs.Pair.{PairView}
use Rattle.ei_pair.specs.Parts.{pair_in}
use Rattle.ei_pair.proofs.Consistent.{flushed}
use Rattle.ei_pair.proofs.pair.Pair.flush.Goals as goal

pub flush-requires : goal.flush-requires
flush-requires g c = record { sound = c.self.invariant.sound; whole = ap (λ (p : PairView g.row.H.Denot). p.ends.spent) c.self.view_is ∙ c.requires.whole }

pub invariant_of-self : goal.invariant_of-self
invariant_of-self g c = record { sound = c.flush.ensures.sound; tells = flushed c.calls_by_lists.ensures.moves (pair_in c.self.inside.parts) (pair_in c.flush.new.self) c.self.invariant.tells (ap (λ (p : PairView g.row.H.Denot). p.ends.spent) c.self.view_is ∙ c.requires.whole) c.resting.ensures.flushes c.args.side c.flush.result c.flush.ensures.ok c.flush.ensures.err }

pub returns-clause-ok : goal.returns-clause-ok
returns-clause-ok g c = rw (← c.self.view_is) c.flush.ensures.ok

pub returns-clause-err : goal.returns-clause-err
returns-clause-err g c = rw (← c.self.view_is) c.flush.ensures.err
