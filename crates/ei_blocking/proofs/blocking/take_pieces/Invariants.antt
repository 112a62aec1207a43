use Rattle.ei_backend.specs.Lent.{LentSource, LentSink}
use Rattle.ei_blocking.proofs.Running.{Running}
use Rattle.ei_blocking.proofs.blocking.take_pieces.Given as goal

abbrev pub invariant-loop-piece : goal.invariant-loop-piece
invariant-loop-piece g l = record {
  running : Running l.fn.handshaker.greeter l.fn.ctx (g.S.Source.view l.fn.source) (g.K.Sink.view l.fn.sink) l._piece l.handshaker (g.S.Source.view l.source) (g.K.Sink.view l.sink) l.ctx;
  source : LentSource g.S.Source.view g.S.Source.later ⊥ ⊥ l.fn.source l.source;
  sink : LentSink g.K.Sink.view g.K.Sink.later ⊥ l.fn.sink l.sink;
}
