use Rattle.std.proofs.Common.{◌≤◌, ◌+◌, length, List, ℕ}
use Rattle.ei_backend.specs.Lent.{LentSink, LentClock}
use Rattle.ei_iterator.specs.Turns.{Turn}
use Rattle.ei_iterator.specs.Around.{Around, around}
use Rattle.ei_iterator.specs.Steps.{Ran, Behind}
use Rattle.ei_iterator.proofs.messages.take_all.Given as goal

abbrev pub invariant-loop-message : goal.invariant-loop-message
invariant-loop-message g l = record {
  taken : (most : ℕ) (old : Around g.row.H.Denot) (turns : List Turn) → Ran g.H.Call.may_answer most old turns (around l.fn.context l.fn.converter (g.K.Sink.view l.fn.sink) (g.C.Clock.view l.fn.clock).left) →
      Behind turns (λ all. Ran g.H.Call.may_answer most old all (around l.context l.converter (g.K.Sink.view l.sink) (g.C.Clock.view l.clock).left));
  fewer : length l.context.unread + l._message ≤ length l.fn.context.unread;
  sink : LentSink g.K.Sink.view g.K.Sink.later ⊥ l.fn.sink l.sink;
  clock : LentClock g.C.Clock.later l.fn.clock l.clock;
}
