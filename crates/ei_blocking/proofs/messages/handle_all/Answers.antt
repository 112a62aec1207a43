use Rattle.std.proofs.Common.{◌∷◌, ◌++◌, Ok, ap, arith}
use Rattle.ei_backend.proofs.Lending.{sink_twice}
use Rattle.ei_blocking.specs.declared.messages.Shaken.{Shaken}
use Rattle.ei_blocking.proofs.Lent.{sink_unfailed}
use Rattle.ei_blocking.proofs.Running.{none_left}
use Rattle.ei_blocking.proofs.messages.handle_all.Goals as goal

-- the connection came
pub returns-in-Connected-clause-steps : goal.returns-in-Connected-clause-steps
returns-in-Connected-clause-steps g c = λ greeter b past before s sent.
    let q = c.loop-message.invariant.handled greeter b past before s sent in
    let r = rw c.in-Connected.is at (c.in_ok-handle_next.ensures.steps greeter b (q.0 ++ past) before q.1 q.2) in
    (r.0 ∷ q.0, (r.1, r.2))

-- one message more was handled
pub loop-message-preserved : goal.loop-message-preserved
loop-message-preserved g c = record {
  handled = λ greeter b past before s sent.
      let q = c.loop-message.invariant.handled greeter b past before s sent in
      let r = rw c.in-Handled.is at (c.in_ok-handle_next.ensures.steps greeter b (q.0 ++ past) before q.1 q.2) in
      (r.0 ∷ q.0, r.1, r.2);
  fewer = omega (arith, c.loop-message.invariant.fewer, c.in_ok-handle_next.ensures.shorter (ap (λ (x : Shaken). Ok x) c.in-Handled.is));
  sink = sink_twice g.met.K.Sink.later_trans (λ f. f) c.loop-message.invariant.sink (sink_unfailed _ _ c.in_ok-handle_next.ensures.sink);
}

-- nothing is unread
pub returns-clause-steps : goal.returns-clause-steps
returns-clause-steps g c = λ greeter b past before s sent.
    let q = c.loop-message.invariant.handled greeter b past before s sent in
    (q.0, (none_left greeter b (q.0 ++ past) _ _ q.1 (omega (arith, c.loop-message.invariant.fewer, c.loop-message-test.false, c.unread_len-message-end.ensures)), q.2))
