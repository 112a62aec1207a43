use Rattle.std.proofs.Common.{◌∙◌, [], ap, Err, arith}
use Rattle.std.proofs.lemmas.Result.{err_from_is_err_and}
use Rattle.ei_backend.proofs.Lending.{untouched_source, source_as, source_twice, untouched_sink, sink_twice, untouched_clock, clock_twice}
use Rattle.ei_types.specs.declared.error.Error.{Error}
use Rattle.ei_serve.specs.Around.{around}
use Rattle.ei_serve.specs.Standing.{setup_of}
use Rattle.ei_serve.proofs.Causes.{err_as, no_risen}
use Rattle.ei_serve.proofs.Lent.{err_back, sink_passed, sink_unfailed, sink_ok}
use Rattle.ei_serve.proofs.BetweenTurns.{not_over}
use Rattle.ei_serve.proofs.Running.{starts, goes_on, untold_replied}
use Rattle.ei_serve.proofs.AsTold.{failed, disconnects, ends, all_gave}
use Rattle.ei_serve.proofs.Serves.{no_end, too_many_turns, turn_is_of_session}
use Rattle.ei_serve.proofs.serve_loop.take_turns.Goals as goal

pub loop-turn-init : goal.loop-turn-init
loop-turn-init g c = record {
  running = λ before replied. starts (setup_of c.args.setup) _ _ c.args.out.now.items before _ _ c.requires.started replied;
  source = untouched_source (g.met.S.Source.later_refl _);
  sink = untouched_sink (g.met.K.Sink.later_refl _);
  clock = untouched_clock (g.met.C.Clock.later_refl _);
}

pub turn-requires : goal.turn-requires
turn-requires g c =
    let r = c.loop-turn.invariant.running _ (untold_replied (setup_of c.args.setup) [] _) in
    record { going = not_over (setup_of c.args.setup) r.pieces r.times c.loop-turn.session r.stands }

pub loop-turn-preserved : goal.loop-turn-preserved
loop-turn-preserved g c = record {
  running = λ before replied.
      let r = c.loop-turn.invariant.running before replied in
      goes_on (setup_of c.args.setup) _ _ _ _ _ _ r (rw c.in-GoOn.is at (c.in_ok-turn.ensures.turns (setup_of c.args.setup) r.pieces r.times r.stands));
  source = source_as (no_risen _ _) (λ f. absurd f) (λ f. absurd f) (source_twice g.met.S.Source.later_trans (λ f. f) c.loop-turn.invariant.source c.in_ok-turn.ensures.source);
  sink = sink_twice g.met.K.Sink.later_trans (λ f. f) c.loop-turn.invariant.sink (sink_unfailed _ _ c.in_ok-turn.ensures.sink);
  clock = clock_twice g.met.C.Clock.later_trans c.loop-turn.invariant.clock c.in_ok-turn.ensures.clock;
}

-- a turn failed
pub returns-in_err-turn-clause-serves : goal.returns-in_err-turn-clause-serves
returns-in_err-turn-clause-serves g c = λ before replied told left are.
    let p = err_from_is_err_and c.from_residual.result c.from_residual.ensures.1 in
    let r = c.loop-turn.invariant.running before replied in
    failed (setup_of c.args.setup) _ _ _ _ _ r (omega (arith, c.loop-turn-test.true, c.from-turn-end.ensures)) told left _ _ _ (p.1 ∙ ap (λ (e : Error). Err e) p.2) are
    (c.in_err-turn.ensures.turns (setup_of c.args.setup) r.pieces r.times r.stands)

pub returns-in_err-turn-clause-gave : goal.returns-in_err-turn-clause-gave
returns-in_err-turn-clause-gave g c =
    let r = c.loop-turn.invariant.running _ (untold_replied (setup_of c.args.setup) [] _) in
    all_gave (setup_of c.args.setup) _ _ c.turn.new.self c.turn.result _ _
    (around (g.S.Source.view c.turn.new.source) c.turn.new.out.items (g.K.Sink.view c.turn.new.sink) (g.C.Clock.view c.turn.new.clock).left)
    r (c.turn.ensures.turns (setup_of c.args.setup) r.pieces r.times r.stands)

pub returns-in_err-turn-clause-only : goal.returns-in_err-turn-clause-only
returns-in_err-turn-clause-only g c =
    let p = err_from_is_err_and c.from_residual.result c.from_residual.ensures.1 in
    let r = c.loop-turn.invariant.running _ (untold_replied (setup_of c.args.setup) [] _) in
    turn_is_of_session (setup_of c.args.setup) r.pieces r.times _ _ _ _ _ (p.1 ∙ ap (λ (e : Error). Err e) p.2) (c.in_err-turn.ensures.turns (setup_of c.args.setup) r.pieces r.times r.stands)

pub returns-in_err-turn-clause-source : goal.returns-in_err-turn-clause-source
returns-in_err-turn-clause-source g c =
    let p = err_from_is_err_and c.from_residual.result c.from_residual.ensures.1 in
    let same = p.1 ∙ ap (λ (e : Error). Err e) p.2 in
    source_as (err_as _ _ _ same) (err_back _ _ _ same) (no_end _ _ same) (source_twice g.met.S.Source.later_trans (λ f. f) c.loop-turn.invariant.source c.in_err-turn.ensures.source)

pub returns-in_err-turn-clause-sink : goal.returns-in_err-turn-clause-sink
returns-in_err-turn-clause-sink g c =
    let p = err_from_is_err_and c.from_residual.result c.from_residual.ensures.1 in
    sink_passed _ _ _ (p.1 ∙ ap (λ (e : Error). Err e) p.2) (sink_twice g.met.K.Sink.later_trans (λ f. f) c.loop-turn.invariant.sink c.in_err-turn.ensures.sink)

pub returns-in_err-turn-clause-clock : goal.returns-in_err-turn-clause-clock
returns-in_err-turn-clause-clock g c = clock_twice g.met.C.Clock.later_trans c.loop-turn.invariant.clock c.in_err-turn.ensures.clock

-- the client disconnected
pub returns-in-Disconnect-clause-serves : goal.returns-in-Disconnect-clause-serves
returns-in-Disconnect-clause-serves g c = λ before replied told left are.
    let r = c.loop-turn.invariant.running before replied in
    disconnects (setup_of c.args.setup) _ _ _ _ _ r (omega (arith, c.loop-turn-test.true, c.from-turn-end.ensures)) told left c.turn.new.self are
    (rw c.in-Disconnect.is at (c.in_ok-turn.ensures.turns (setup_of c.args.setup) r.pieces r.times r.stands))

pub returns-in-Disconnect-clause-gave : goal.returns-in-Disconnect-clause-gave
returns-in-Disconnect-clause-gave g c =
    let r = c.loop-turn.invariant.running _ (untold_replied (setup_of c.args.setup) [] _) in
    all_gave (setup_of c.args.setup) _ _ c.turn.new.self c.turn.result _ _
    (around (g.S.Source.view c.turn.new.source) c.turn.new.out.items (g.K.Sink.view c.turn.new.sink) (g.C.Clock.view c.turn.new.clock).left)
    r (c.turn.ensures.turns (setup_of c.args.setup) r.pieces r.times r.stands)

pub returns-in-Disconnect-clause-source : goal.returns-in-Disconnect-clause-source
returns-in-Disconnect-clause-source g c = source_as (no_risen _ _) (no_risen _ _) (λ f. absurd f) (source_twice g.met.S.Source.later_trans (λ f. f) c.loop-turn.invariant.source c.in_ok-turn.ensures.source)

pub returns-in-Disconnect-clause-sink : goal.returns-in-Disconnect-clause-sink
returns-in-Disconnect-clause-sink g c = sink_ok _ _ (sink_twice g.met.K.Sink.later_trans (λ f. f) c.loop-turn.invariant.sink (sink_unfailed _ _ c.in_ok-turn.ensures.sink))

pub returns-in-Disconnect-clause-clock : goal.returns-in-Disconnect-clause-clock
returns-in-Disconnect-clause-clock g c = clock_twice g.met.C.Clock.later_trans c.loop-turn.invariant.clock c.in_ok-turn.ensures.clock

-- the source is at its end
pub returns-in-End-clause-serves : goal.returns-in-End-clause-serves
returns-in-End-clause-serves g c = λ before replied told left are.
    let r = c.loop-turn.invariant.running before replied in
    ends (setup_of c.args.setup) _ _ _ _ _ r (omega (arith, c.loop-turn-test.true, c.from-turn-end.ensures)) told left c.turn.new.self are
    (rw c.in-End.is at (c.in_ok-turn.ensures.turns (setup_of c.args.setup) r.pieces r.times r.stands))

pub returns-in-End-clause-gave : goal.returns-in-End-clause-gave
returns-in-End-clause-gave g c =
    let r = c.loop-turn.invariant.running _ (untold_replied (setup_of c.args.setup) [] _) in
    all_gave (setup_of c.args.setup) _ _ c.turn.new.self c.turn.result _ _
    (around (g.S.Source.view c.turn.new.source) c.turn.new.out.items (g.K.Sink.view c.turn.new.sink) (g.C.Clock.view c.turn.new.clock).left)
    r (c.turn.ensures.turns (setup_of c.args.setup) r.pieces r.times r.stands)

pub returns-in-End-clause-source : goal.returns-in-End-clause-source
returns-in-End-clause-source g c = source_as (no_risen _ _) (no_risen _ _) (λ _. rw c.in-End.is tt) (source_twice g.met.S.Source.later_trans (λ f. f) c.loop-turn.invariant.source c.in_ok-turn.ensures.source)

pub returns-in-End-clause-sink : goal.returns-in-End-clause-sink
returns-in-End-clause-sink g c = sink_ok _ _ (sink_twice g.met.K.Sink.later_trans (λ f. f) c.loop-turn.invariant.sink (sink_unfailed _ _ c.in_ok-turn.ensures.sink))

pub returns-in-End-clause-clock : goal.returns-in-End-clause-clock
returns-in-End-clause-clock g c = clock_twice g.met.C.Clock.later_trans c.loop-turn.invariant.clock c.in_ok-turn.ensures.clock

-- there are no more turns than that
pub returns-clause-serves : goal.returns-clause-serves
returns-clause-serves g c = absurd (too_many_turns (setup_of c.args.setup) _ _ _ _ (c.loop-turn.invariant.running _ (untold_replied (setup_of c.args.setup) [] _)) (omega (arith, c.loop-turn-test.false, c.from-turn-end.ensures)))

pub returns-clause-gave : goal.returns-clause-gave
returns-clause-gave g c = absurd (too_many_turns (setup_of c.args.setup) _ _ _ _ (c.loop-turn.invariant.running _ (untold_replied (setup_of c.args.setup) [] _)) (omega (arith, c.loop-turn-test.false, c.from-turn-end.ensures)))

pub returns-clause-source : goal.returns-clause-source
returns-clause-source g c = absurd (too_many_turns (setup_of c.args.setup) _ _ _ _ (c.loop-turn.invariant.running _ (untold_replied (setup_of c.args.setup) [] _)) (omega (arith, c.loop-turn-test.false, c.from-turn-end.ensures)))

pub returns-clause-sink : goal.returns-clause-sink
returns-clause-sink g c = absurd (too_many_turns (setup_of c.args.setup) _ _ _ _ (c.loop-turn.invariant.running _ (untold_replied (setup_of c.args.setup) [] _)) (omega (arith, c.loop-turn-test.false, c.from-turn-end.ensures)))
