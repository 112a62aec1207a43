use Rattle.std.proofs.Common.{◌≡◌, ◌∙◌, [], ◌++◌, ap, Err, arith}
use Rattle.std.proofs.lemmas.Result.{err_from_is_err_and}
use Rattle.ei_backend.proofs.Lending.{untouched_source, source_as, source_twice, untouched_sink, sink_twice, untouched_clock, clock_twice}
use Rattle.ei_types.specs.declared.error.Error.{Error}
use Rattle.ei_serve.specs.Standing.{setup_of}
use Rattle.ei_serve.proofs.Causes.{no_risen}
use Rattle.ei_serve.proofs.Lent.{sink_unfailed}
use Rattle.ei_serve.proofs.BetweenTurns.{not_over}
use Rattle.ei_serve.proofs.Running.{starts, goes_on, untold_replied}
use Rattle.ei_serve.proofs.AsTold.{failed, disconnects, ends}
use Rattle.ei_serve.proofs.Serves.{too_many_turns}
use Rattle.reis_demo.proofs.tally.count_turns.Goals as goal

pub loop-turn-init : goal.loop-turn-init
loop-turn-init g c = record {
  counting = λ before replied. record {
    came = [];
    counts = c.requires.none;
    running = starts (setup_of c.args.setup) _ _ [] before _ _ c.requires.started replied;
  };
  none = c.new-requests.ensures.items;
  few = omega (arith, c.requires.none.requests);
  few_inputs = omega (arith, c.requires.none.inputs);
  source = untouched_source (g.met.S.Source.later_refl _);
  sink = untouched_sink (g.met.K.Sink.later_refl _);
  clock = untouched_clock (g.met.C.Clock.later_refl _);
}

pub count_turn-requires : goal.count_turn-requires
count_turn-requires g c =
    let r = (c.loop-turn.invariant.counting _ (untold_replied (setup_of c.args.setup) [] _)).running in
    record {
      going = not_over (setup_of c.args.setup) r.pieces r.times c.loop-turn.session r.stands;
      none = c.loop-turn.invariant.none;
      room = omega (arith, c.loop-turn.invariant.few, c.loop-turn-test.true, c.from-turn-end.ensures);
      input_room = omega (arith, c.loop-turn.invariant.few_inputs, c.loop-turn-test.true, c.from-turn-end.ensures);
    }

pub loop-turn-preserved : goal.loop-turn-preserved
loop-turn-preserved g c = record {
  counting = λ before replied.
      let k = c.loop-turn.invariant.counting before replied in
      let t = c.in_ok-count_turn.ensures.turns (setup_of c.args.setup) k.running.pieces k.running.times k.came k.running.stands k.counts in
      record {
        came = k.came ++ t.more;
        counts = t.counts;
        running = goes_on (setup_of c.args.setup) _ _ _ _ _ _ k.running (rw c.in-GoOn.is at t.turns);
      };
  none = c.in_ok-count_turn.ensures.none;
  few = omega (arith, c.loop-turn.invariant.few, c.in_ok-count_turn.ensures.few);
  few_inputs = omega (arith, c.loop-turn.invariant.few_inputs, c.in_ok-count_turn.ensures.few_inputs);
  source = source_as (no_risen _ _) (λ f. absurd f) (λ f. absurd f) (source_twice g.met.S.Source.later_trans (λ f. f) c.loop-turn.invariant.source c.in_ok-count_turn.ensures.source);
  sink = sink_twice g.met.K.Sink.later_trans (λ f. f) c.loop-turn.invariant.sink (sink_unfailed _ _ c.in_ok-count_turn.ensures.sink);
  clock = clock_twice g.met.C.Clock.later_trans c.loop-turn.invariant.clock c.in_ok-count_turn.ensures.clock;
}

-- a turn failed
pub returns-in_err-count_turn-clause-serves : goal.returns-in_err-count_turn-clause-serves
returns-in_err-count_turn-clause-serves g c = λ before replied told left are.
    let p = err_from_is_err_and c.from_residual.result c.from_residual.ensures.1 in
    let k = c.loop-turn.invariant.counting before replied in
    let t = c.in_err-count_turn.ensures.turns (setup_of c.args.setup) k.running.pieces k.running.times k.came k.running.stands k.counts in
    record {
      came = k.came ++ t.more;
      counts = t.counts;
      serves = failed (setup_of c.args.setup) _ _ _ _ _ k.running (omega (arith, c.loop-turn-test.true, c.from-turn-end.ensures)) told left _ _ _ (p.1 ∙ ap (λ (e : Error). Err e) p.2) are t.turns;
    }

-- the client disconnected
pub returns-in-Disconnect-clause-serves : goal.returns-in-Disconnect-clause-serves
returns-in-Disconnect-clause-serves g c = λ before replied told left are.
    let k = c.loop-turn.invariant.counting before replied in
    let t = c.in_ok-count_turn.ensures.turns (setup_of c.args.setup) k.running.pieces k.running.times k.came k.running.stands k.counts in
    record {
      came = k.came ++ t.more;
      counts = t.counts;
      serves = disconnects (setup_of c.args.setup) _ _ _ _ _ k.running (omega (arith, c.loop-turn-test.true, c.from-turn-end.ensures)) told left c.count_turn.new.session are (rw c.in-Disconnect.is at t.turns);
    }

-- the source is at its end
pub returns-in-End-clause-serves : goal.returns-in-End-clause-serves
returns-in-End-clause-serves g c = λ before replied told left are.
    let k = c.loop-turn.invariant.counting before replied in
    let t = c.in_ok-count_turn.ensures.turns (setup_of c.args.setup) k.running.pieces k.running.times k.came k.running.stands k.counts in
    record {
      came = k.came ++ t.more;
      counts = t.counts;
      serves = ends (setup_of c.args.setup) _ _ _ _ _ k.running (omega (arith, c.loop-turn-test.true, c.from-turn-end.ensures)) told left c.count_turn.new.session are (rw c.in-End.is at t.turns);
    }

-- there are no more turns than that
pub returns-clause-serves : goal.returns-clause-serves
returns-clause-serves g c = absurd (too_many_turns (setup_of c.args.setup) _ _ _ _ (c.loop-turn.invariant.counting _ (untold_replied (setup_of c.args.setup) [] _)).running (omega (arith, c.loop-turn-test.false, c.from-turn-end.ensures)))
