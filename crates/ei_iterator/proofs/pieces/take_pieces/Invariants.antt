use Rattle.ei_backend.specs.Lent.{LentSource, LentSink, LentClock}
use Rattle.ei_iterator.specs.Around.{around}
use Rattle.ei_iterator.proofs.Running.{Running}
use Rattle.ei_iterator.proofs.pieces.take_pieces.Given as goal

abbrev pub invariant-loop-piece : goal.invariant-loop-piece
invariant-loop-piece g l = record {
  running : Running g.H.Call.may_answer l.fn.pieces (around l.fn.context l.fn.converter (g.K.Sink.view l.fn.sink) (g.C.Clock.view l.fn.clock).left) (g.S.Source.view l.fn.source) l._piece (g.S.Source.view l.source)
      (around l.context l.converter (g.K.Sink.view l.sink) (g.C.Clock.view l.clock).left);
  source : LentSource g.S.Source.view g.S.Source.later ⊥ ⊥ l.fn.source l.source;
  sink : LentSink g.K.Sink.view g.K.Sink.later ⊥ l.fn.sink l.sink;
  clock : LentClock g.C.Clock.later l.fn.clock l.clock;
}
