use Rattle.std.proofs.Common.{refl}
use Rattle.ei_backend.proofs.Lending.{untouched_source, source_as, sink_twice}
use Rattle.ei_serve.specs.Standing.{setup_of}
use Rattle.ei_serve.proofs.Lent.{as_err, sink_passed, sink_unfailed}
use Rattle.ei_serve.proofs.Serves.{greeted, no_start_read, no_start_end, no_end}
use Rattle.reis_demo.proofs.Tallying.{undecided}
use Rattle.reis_demo.proofs.tally.serve_counted.Goals as goal

-- the session isn't started
pub returns-in-Err-clause-serves : goal.returns-in-Err-clause-serves
returns-in-Err-clause-serves g c = λ decided told left are.
    absurd (undecided _ _ refl c.in-Err.ensures.only decided)

pub returns-in-Err-clause-source : goal.returns-in-Err-clause-source
returns-in-Err-clause-source g c =
    source_as (λ f. absurd f) (λ q. no_start_read _ c.in-Err.ensures.only (as_err _ _ _ refl q)) (λ q. no_start_end _ c.in-Err.ensures.only (no_end _ _ refl q))
    (untouched_source (g.met.S.Source.later_refl _))

pub returns-in-Err-clause-sink : goal.returns-in-Err-clause-sink
returns-in-Err-clause-sink g c =
    sink_passed _ _ _ refl c.in-Err.ensures.sink

-- the turns were taken
pub returns-in-Ok-clause-serves : goal.returns-in-Ok-clause-serves
returns-in-Ok-clause-serves g c = λ decided told left are. c.count_turns-ended.ensures.serves (g.K.Sink.view c.args.sink.now) (greeted (setup_of c.args.setup) _ _ c.in-Ok.ensures.greeted) told left are

pub returns-in-Ok-clause-sink : goal.returns-in-Ok-clause-sink
returns-in-Ok-clause-sink g c = sink_twice g.met.K.Sink.later_trans (λ f. f) (sink_unfailed _ _ c.in-Ok.ensures.sink) c.count_turns-ended.ensures.sink
