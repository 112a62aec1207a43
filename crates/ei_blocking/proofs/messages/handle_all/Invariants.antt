use Rattle.std.proofs.Common.{◌≤◌, ◌+◌, ◌++◌, length, List}
use Rattle.ei_spec.specs.Message.{Raw}
use Rattle.ei_backend.specs.Backend.{BackendView}
use Rattle.ei_backend.specs.Outside.{SinkView}
use Rattle.ei_backend.specs.Lent.{LentSink}
use Rattle.ei_greeting.specs.Shaking.{Greeter}
use Rattle.ei_blocking.specs.Sending.{SentAll}
use Rattle.ei_blocking.specs.Steps.{Shakes}
use Rattle.ei_blocking.proofs.messages.handle_all.Given as goal

abbrev pub invariant-loop-message : goal.invariant-loop-message
invariant-loop-message g l = record {
  handled : (greeter : Greeter) (b : BackendView) (past : List Raw) (before : SinkView) → Shakes greeter b past l.fn.handshaker l.fn.ctx → SentAll greeter b past before (g.K.Sink.view l.fn.sink) l.fn.ctx →
      (behind : List Raw) × Shakes greeter b (behind ++ past) l.handshaker l.ctx × SentAll greeter b (behind ++ past) before (g.K.Sink.view l.sink) l.ctx;
  fewer : length l.ctx.unread + l._message ≤ length l.fn.ctx.unread;
  sink : LentSink g.K.Sink.view g.K.Sink.later ⊥ l.fn.sink l.sink;
}
