-- There is an emitter, it carries the steps out, and its pair is answered.
use Rattle.ei_emit.specs.Steps.{history}
use Rattle.ei_emit.proofs.SoFar.{nothing_given}
use Rattle.ei_emit.proofs.Whole.{answers_so}
use Rattle.ei_emit.proofs.emitting.emit.Goals as goal

pub returns-in_default-clause-answers : goal.returns-in_default-clause-answers
returns-in_default-clause-answers g c = nothing_given c.args.initial_serial (history c.args.steps.now) (g.C.Clock.view c.args.clock.now).left c.args.out.now.items

pub returns-clause-answers : goal.returns-clause-answers
returns-clause-answers g c =
    answers_so c.args.initial_serial c.args.steps.now (g.C.Clock.view c.args.clock.now).left (g.C.Clock.view c.play_all-played.new.clock).left c.args.out.now.items c.play_all-played.new.out.items
    c.play_all-played.new.self.pair c.into_pair.result c.play_all-played.result c.and.result c.into_pair.ensures c.and.ensures
    (c.play_all-played.ensures.answers c.args.initial_serial (g.C.Clock.view c.args.clock.now).left c.in-Ok.ensures.begins)

pub returns-clause-clock : goal.returns-clause-clock
returns-clause-clock g c = record { later_clock = g.met.C.Clock.later_trans _ _ _ c.in-Ok.ensures.clock.later_clock c.play_all-played.ensures.clock.later_clock }
