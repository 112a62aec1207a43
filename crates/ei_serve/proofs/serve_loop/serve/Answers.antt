use Rattle.std.proofs.Common.{ap, refl, Err}
use Rattle.ei_backend.proofs.Lending.{rose_since, untouched_source, source_as, sink_twice}
use Rattle.ei_types.specs.declared.error.Error.{Error}
use Rattle.ei_serve.specs.Around.{no_source}
use Rattle.ei_serve.specs.Standing.{setup_of}
use Rattle.ei_serve.proofs.Lent.{as_err, sink_passed, sink_unfailed}
use Rattle.ei_serve.proofs.Serves.{greeted, greeted_in_part, not_started, no_start_read, no_start_end, no_end, start_is_of_session, sure, sure_of}
use Rattle.ei_serve.proofs.AsTold.{unasked, nothing_given}
use Rattle.ei_serve.proofs.serve_loop.serve.Goals as goal

-- the session isn't started
pub returns-in-Err-clause-serves : goal.returns-in-Err-clause-serves
returns-in-Err-clause-serves g c = λ told left are.
    not_started (setup_of c.args.setup) told _ left c.args.out.now.items _ _ _ _ _ refl c.in-Err.ensures.only (unasked _ _ told left are) (greeted_in_part (setup_of c.args.setup) _ _ c.in-Err.ensures.greeted_in_part)

pub returns-in-Err-clause-answer : goal.returns-in-Err-clause-answer
returns-in-Err-clause-answer g c = λ told left are.
    (not_started (setup_of c.args.setup) told no_source left c.args.out.now.items _ _ (g.C.Clock.view c.args.clock.now).left _ _ refl c.in-Err.ensures.only (unasked _ _ told left are) (greeted_in_part (setup_of c.args.setup) _ _ c.in-Err.ensures.greeted_in_part)).answer

pub returns-in-Err-clause-complete : goal.returns-in-Err-clause-complete
returns-in-Err-clause-complete g c = λ told left are complete no_read no_write.
    let s = not_started (setup_of c.args.setup) told no_source left c.args.out.now.items _ _ (g.C.Clock.view c.args.clock.now).left _ _ refl c.in-Err.ensures.only (unasked _ _ told left are) (greeted_in_part (setup_of c.args.setup) _ _ c.in-Err.ensures.greeted_in_part) in
    sure (setup_of c.args.setup) told left _ _ _ _ refl complete s (no_start_read _ c.in-Err.ensures.only)
    (λ q. no_write (c.in-Err.ensures.sink.write_fault (ap (λ (e : Error). Err e) q)))

pub returns-in-Err-clause-gave : goal.returns-in-Err-clause-gave
returns-in-Err-clause-gave g c = nothing_given _

pub returns-in-Err-clause-source : goal.returns-in-Err-clause-source
returns-in-Err-clause-source g c =
    source_as (λ f. absurd f) (λ q. no_start_read _ c.in-Err.ensures.only (as_err _ _ _ refl q)) (λ q. no_start_end _ c.in-Err.ensures.only (no_end _ _ refl q))
    (untouched_source (g.met.S.Source.later_refl _))

pub returns-in-Err-clause-sink : goal.returns-in-Err-clause-sink
returns-in-Err-clause-sink g c =
    sink_passed _ _ _ refl c.in-Err.ensures.sink

pub returns-in-Err-clause-only : goal.returns-in-Err-clause-only
returns-in-Err-clause-only g c =
    start_is_of_session _ _ refl c.in-Err.ensures.only

-- the turns were taken
pub returns-in-Ok-clause-serves : goal.returns-in-Ok-clause-serves
returns-in-Ok-clause-serves g c = c.take_turns-ended.ensures.serves (g.K.Sink.view c.args.sink.now) (greeted (setup_of c.args.setup) _ _ c.in-Ok.ensures.greeted)

pub returns-in-Ok-clause-answer : goal.returns-in-Ok-clause-answer
returns-in-Ok-clause-answer g c = λ told left are. (c.take_turns-ended.ensures.serves (g.K.Sink.view c.args.sink.now) (greeted (setup_of c.args.setup) _ _ c.in-Ok.ensures.greeted) told left are).answer

pub returns-in-Ok-clause-complete : goal.returns-in-Ok-clause-complete
returns-in-Ok-clause-complete g c = λ told left are complete no_read no_write.
    sure_of (setup_of c.args.setup) told left _ _ _ complete (c.take_turns-ended.ensures.serves (g.K.Sink.view c.args.sink.now) (greeted (setup_of c.args.setup) _ _ c.in-Ok.ensures.greeted) told left are)
    (λ q. no_read (c.take_turns-ended.ensures.source.read_fault q))
    (λ q. no_write (rose_since _ _ _ c.in-Ok.ensures.sink.write_faults (c.take_turns-ended.ensures.sink.write_fault q)))

pub returns-in-Ok-clause-sink : goal.returns-in-Ok-clause-sink
returns-in-Ok-clause-sink g c = sink_twice g.met.K.Sink.later_trans (λ f. f) (sink_unfailed _ _ c.in-Ok.ensures.sink) c.take_turns-ended.ensures.sink
