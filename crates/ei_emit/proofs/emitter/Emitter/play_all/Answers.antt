-- Step after step, and what the client reports of each.
use Rattle.ei_emit.specs.Stands.{emitter}
use Rattle.ei_emit.proofs.Whole.{stands_begun, stands_on, answers_part, is_begun, begun_in_part, so_far_in_part, all_so_far, stops_at, goes_on, stops_in_part}
use Rattle.ei_emit.proofs.emitter.Emitter.play_all.Goals as goal

pub returns-in_err-report-clause-answers : goal.returns-in_err-report-clause-answers
returns-in_err-report-clause-answers g c = λ start told b.
    answers_part start c.args.steps.now told (g.C.Clock.view c.args.clock.now).left c.args.out.now.items c.report.new.out.items c.report.new.pair c.from_residual.result c.from_residual.ensures.1
    (begun_in_part start c.args.steps.now told (g.C.Clock.view c.args.clock.now).left c.args.out.now.items c.report.new.out.items
    (emitter c.args.self.now.pair c.args.self.now.seat c.args.self.now.devices.added.items) b c.in_err-report.ensures.err)

pub loop-place-init : goal.loop-place-init
loop-place-init g c = record {
  standing = stands_begun (emitter c.args.self.now.pair c.args.self.now.seat c.args.self.now.devices.added.items) c.report.new.pair c.requires.stands c.in_ok-report.ensures.left;
  so_far = λ start told b.
      is_begun start c.args.steps.now told (g.C.Clock.view c.args.clock.now).left c.args.out.now.items c.report.new.out.items
      (emitter c.args.self.now.pair c.args.self.now.seat c.args.self.now.devices.added.items) c.report.new.pair b c.in_ok-report.ensures.left c.in_ok-report.ensures.ok;
  later = g.met.C.Clock.later_refl c.args.clock.now;
}

pub play-requires : goal.play-requires
play-requires g c = c.loop-place.invariant.standing

pub returns-in_err-play-clause-answers : goal.returns-in_err-play-clause-answers
returns-in_err-play-clause-answers g c = λ start told b.
    answers_part start c.args.steps.now told (g.C.Clock.view c.play.new.clock).left c.args.out.now.items c.loop-place.out.items c.play.new.self.pair c.from_residual-in_err-play.result c.from_residual-in_err-play.ensures.1
    (so_far_in_part start c.args.steps.now c.loop-place.place told (g.C.Clock.view c.loop-place.clock).left c.args.out.now.items c.loop-place.out.items
    (emitter c.loop-place.self.pair c.loop-place.self.seat c.loop-place.self.devices.added.items) (c.loop-place.invariant.so_far start told b))

pub returns-then-not-branch-clause-answers : goal.returns-then-not-branch-clause-answers
returns-then-not-branch-clause-answers g c = λ start told b.
    stops_at start c.args.steps.now c.loop-place.place told (g.C.Clock.view c.loop-place.clock).left c.args.out.now.items c.loop-place.out.items
    (emitter c.loop-place.self.pair c.loop-place.self.seat c.loop-place.self.devices.added.items) (c.loop-place.invariant.so_far start told b)
    c.index-steps-place.result c.loop-place-test.true c.index-steps-place.is (g.C.Clock.view c.play.new.clock).left
    (emitter c.play.new.self.pair c.play.new.self.seat c.play.new.self.devices.added.items) c.in_ok-play.field-0 c.in_ok-play.ensures.plays c.if-not-branch.true

pub returns-in_err-report-2-clause-answers : goal.returns-in_err-report-2-clause-answers
returns-in_err-report-2-clause-answers g c = λ start told b.
    answers_part start c.args.steps.now told (g.C.Clock.view c.play.new.clock).left c.args.out.now.items c.report-in-loop-place.new.out.items c.report-in-loop-place.new.pair c.from_residual-in_err-report-2.result c.from_residual-in_err-report-2.ensures.1
    (stops_in_part start c.args.steps.now c.loop-place.place told (g.C.Clock.view c.loop-place.clock).left c.args.out.now.items c.loop-place.out.items
    (emitter c.loop-place.self.pair c.loop-place.self.seat c.loop-place.self.devices.added.items) (c.loop-place.invariant.so_far start told b)
    c.index-steps-place.result c.loop-place-test.true c.index-steps-place.is (g.C.Clock.view c.play.new.clock).left
    (emitter c.play.new.self.pair c.play.new.self.seat c.play.new.self.devices.added.items) c.in_ok-play.field-0 c.in_ok-play.ensures.plays c.if-not-branch.false
    c.report-in-loop-place.new.out.items c.in_err-report-2.ensures.err)

pub loop-place-preserved : goal.loop-place-preserved
loop-place-preserved g c = record {
  standing = stands_on (emitter c.loop-place.self.pair c.loop-place.self.seat c.loop-place.self.devices.added.items) (emitter c.play.new.self.pair c.play.new.self.seat c.play.new.self.devices.added.items)
      c.report-in-loop-place.new.pair c.index-steps-place.result (g.C.Clock.view c.loop-place.clock).left (g.C.Clock.view c.play.new.clock).left c.in_ok-play.field-0 c.loop-place.invariant.standing c.in_ok-play.ensures.plays c.if-not-branch.false c.in_ok-report-2.ensures.left;
  so_far = λ start told b.
      goes_on start c.args.steps.now c.loop-place.place told (g.C.Clock.view c.loop-place.clock).left c.args.out.now.items c.loop-place.out.items
      (emitter c.loop-place.self.pair c.loop-place.self.seat c.loop-place.self.devices.added.items) (c.loop-place.invariant.so_far start told b)
      c.index-steps-place.result c.loop-place-test.true c.index-steps-place.is (g.C.Clock.view c.play.new.clock).left
      (emitter c.play.new.self.pair c.play.new.self.seat c.play.new.self.devices.added.items) c.in_ok-play.field-0 c.in_ok-play.ensures.plays c.if-not-branch.false
      c.report-in-loop-place.new.out.items c.report-in-loop-place.new.pair c.in_ok-report-2.ensures.left c.in_ok-report-2.ensures.ok;
  later = g.met.C.Clock.later_trans _ _ _ c.loop-place.invariant.later c.in_ok-play.ensures.clock.later_clock;
}

pub returns-clause-answers : goal.returns-clause-answers
returns-clause-answers g c = λ start told b.
    all_so_far start c.args.steps.now c.loop-place.place told (g.C.Clock.view c.loop-place.clock).left c.args.out.now.items c.loop-place.out.items
    (emitter c.loop-place.self.pair c.loop-place.self.seat c.loop-place.self.devices.added.items) (c.loop-place.invariant.so_far start told b) c.loop-place-test.false c.loop-place.auto.place-end
