use Rattle.std.proofs.Common.{ℕ, List}
use Rattle.ei_spec.specs.declared.handle.Handle.{Handle}
use Rattle.ei_spec.specs.Message.{Raw}
use Rattle.ei_backend.specs.Lent.{LentSink, LentClock}
use Rattle.ei_serve.specs.Around.{around, no_source}
use Rattle.ei_serve.specs.Standing.{StandsAt, terms_of}
use Rattle.ei_serve.proofs.Handling.{Handling}
use Rattle.ei_serve.proofs.phase.Phase.handle_messages.Given as goal

abbrev pub invariant-loop-message : goal.invariant-loop-message
invariant-loop-message g l = record {
  handling : (past : List Raw) (times rest : List ℕ) (handles : List Handle) → StandsAt (terms_of l.start.terms) past times rest handles l.fn.self →
      Handling (terms_of l.start.terms) past times rest handles l._message l.self (around no_source l.fn.out.items (g.K.Sink.view l.fn.sink) (g.C.Clock.view l.fn.clock).left) (around no_source l.out.items (g.K.Sink.view l.sink) (g.C.Clock.view l.clock).left);
  sink : LentSink g.K.Sink.view g.K.Sink.later ⊥ l.fn.sink l.sink;
  clock : LentClock g.C.Clock.later l.fn.clock l.clock;
}
