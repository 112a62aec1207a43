use Rattle.ei_backend.proofs.Lending.{untouched_source, source_twice, untouched_sink, sink_twice, untouched_clock, clock_twice}
use Rattle.ei_backend.proofs.laws.lent.Goals as goal

pub returns : goal.returns
returns g c = record {
  untouched_source = λ x. untouched_source (g.met.S.Source.later_refl x);
  source_twice = λ at_end failed ended x y z first second. source_twice g.met.S.Source.later_trans (λ f. f) first second;
  untouched_sink = λ x. untouched_sink (g.met.K.Sink.later_refl x);
  sink_twice = λ failed x y z first second. sink_twice g.met.K.Sink.later_trans (λ f. f) first second;
  untouched_clock = λ x. untouched_clock (g.met.C.Clock.later_refl x);
  clock_twice = λ x y z first second. clock_twice g.met.C.Clock.later_trans first second;
}
