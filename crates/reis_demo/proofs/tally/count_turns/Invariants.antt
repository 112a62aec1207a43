use Rattle.std.proofs.Common.{◌≡◌, ◌≤◌, ◌*◌, ◌^◌, []}
use Rattle.ei_backend.specs.Outside.{SinkView}
use Rattle.ei_backend.specs.Lent.{LentSource, LentSink, LentClock}
use Rattle.ei_serve.specs.Around.{around}
use Rattle.ei_serve.specs.Serving.{Replied}
use Rattle.ei_serve.specs.Standing.{setup_of}
use Rattle.reis_demo.proofs.Tallying.{Counting}
use Rattle.reis_demo.proofs.tally.count_turns.Given as goal

abbrev pub invariant-loop-turn : goal.invariant-loop-turn
invariant-loop-turn g l = record {
  counting : (before : SinkView) → Replied (setup_of l.fn.setup) [] before (g.K.Sink.view l.fn.sink) →
      Counting (setup_of l.fn.setup) l._turn l.session l.tally (around (g.S.Source.view l.fn.source) [] before (g.C.Clock.view l.fn.clock).left) (around (g.S.Source.view l.source) [] (g.K.Sink.view l.sink) (g.C.Clock.view l.clock).left);
  none : l.requests.items ≡ [];
  few : l.tally.requests ≤ l._turn * 2 ^ 64;
  few_inputs : l.tally.inputs ≤ l._turn * 2 ^ 64;
  source : LentSource g.S.Source.view g.S.Source.later ⊥ ⊥ l.fn.source l.source;
  sink : LentSink g.K.Sink.view g.K.Sink.later ⊥ l.fn.sink l.sink;
  clock : LentClock g.C.Clock.later l.fn.clock l.clock;
}
