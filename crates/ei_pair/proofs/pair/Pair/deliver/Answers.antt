-- Bytes come, as the parts say.
use Rattle.std.proofs.Common.{ap, ◌∙◌}
use Rattle.ei_promises.specs.Pair.{PairView}
use Rattle.ei_pair.specs.Parts.{pair_in}
use Rattle.ei_pair.proofs.Consistent.{delivered}
use Rattle.ei_pair.proofs.pair.Pair.deliver.Goals as goal

pub deliver-requires : goal.deliver-requires
deliver-requires g c = record { some = c.requires.some; most = c.requires.most; sound = c.self.invariant.sound; whole = ap (λ (p : PairView g.row.H.Denot). p.ends.spent) c.self.view_is ∙ c.requires.whole }

pub invariant_of-self : goal.invariant_of-self
invariant_of-self g c = record { sound = c.deliver.ensures.sound; tells = delivered c.calls_by_lists.ensures.moves (pair_in c.self.inside.parts) (pair_in c.deliver.new.self) c.self.invariant.tells (ap (λ (p : PairView g.row.H.Denot). p.ends.spent) c.self.view_is ∙ c.requires.whole) c.resting.ensures.delivers c.args.side c.args.n c.deliver.result c.deliver.ensures.delivers c.deliver.ensures.kept }

pub returns-clause-delivers : goal.returns-clause-delivers
returns-clause-delivers g c = rw (← c.self.view_is) c.deliver.ensures.delivers

pub returns-clause-kept : goal.returns-clause-kept
returns-clause-kept g c = rw (← c.self.view_is) c.deliver.ensures.kept

pub returns-clause-few : goal.returns-clause-few
returns-clause-few g c = rw (← c.self.view_is) c.deliver.ensures.few
