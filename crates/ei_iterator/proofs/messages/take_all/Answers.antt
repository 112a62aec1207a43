use Rattle.std.proofs.Common.{◌++◌, [], Ok, Err, refl, ap, ◌∙◌, arith}
use Rattle.std.proofs.lemmas.Result.{err_from_is_err_and}
use Rattle.ei_types.specs.declared.error.Error.{Error}
use Rattle.ei_backend.proofs.Lending.{untouched_sink, sink_twice, untouched_clock, clock_twice}
use Rattle.ei_blocking.proofs.Lent.{sink_unfailed}
use Rattle.ei_iterator.specs.declared.messages.Read.{Read}
use Rattle.ei_iterator.proofs.AllWhole.{none_left, one_fails, one_waits, one_taken}
use Rattle.ei_iterator.proofs.messages.take_all.Goals as goal

pub loop-message-init : goal.loop-message-init
loop-message-init g c = record {
  taken = λ most old turns ran. ([], refl, ran);
  fewer = omega arith;
  sink = untouched_sink (g.met.K.Sink.later_refl _);
  clock = untouched_clock (g.met.C.Clock.later_refl _);
}

-- a message was refused, or cut short
pub returns-in_err-take_next-clause-steps : goal.returns-in_err-take_next-clause-steps
returns-in_err-take_next-clause-steps g c = λ most old turns ran.
    let p = err_from_is_err_and c.from_residual.result c.from_residual.ensures.1 in
    let q = c.loop-message.invariant.taken most old turns ran in
    one_fails g.H.Call.may_answer most old turns q.0 q.1 _ _ _ c.from_residual.result c.in_err-take_next.was (p.1 ∙ ap (λ (e : Error). Err e) p.2) (c.take_next.ensures.steps most old (q.0 ++ turns) q.2)

-- no message is whole
pub returns-in-Waiting-clause-steps : goal.returns-in-Waiting-clause-steps
returns-in-Waiting-clause-steps g c = λ most old turns ran.
    let q = c.loop-message.invariant.taken most old turns ran in
    one_waits g.H.Call.may_answer most old turns q.0 q.1 _ _ (c.in_ok-take_next.was ∙ ap (λ (x : Read). Ok x) c.in-Waiting.is) (c.take_next.ensures.steps most old (q.0 ++ turns) q.2)

-- one message more was taken
pub loop-message-preserved : goal.loop-message-preserved
loop-message-preserved g c = record {
  taken = λ most old turns ran.
      let q = c.loop-message.invariant.taken most old turns ran in
      one_taken g.H.Call.may_answer most old turns q.0 q.1 _ _ (c.in_ok-take_next.was ∙ ap (λ (x : Read). Ok x) c.in-Taken.is) (c.take_next.ensures.steps most old (q.0 ++ turns) q.2);
  fewer = omega (arith, c.loop-message.invariant.fewer, c.in_ok-take_next.ensures.shorter (ap (λ (x : Read). Ok x) c.in-Taken.is));
  sink = sink_twice g.met.K.Sink.later_trans (λ f. f) c.loop-message.invariant.sink (sink_unfailed _ _ c.in_ok-take_next.ensures.sink);
  clock = clock_twice g.met.C.Clock.later_trans c.loop-message.invariant.clock c.in_ok-take_next.ensures.clock;
}

-- nothing is unread
pub returns-clause-steps : goal.returns-clause-steps
returns-clause-steps g c = λ most old turns ran.
    let q = c.loop-message.invariant.taken most old turns ran in
    (q.0, q.1, none_left g.H.Call.may_answer most old (q.0 ++ turns) _ q.2 (omega (arith, c.loop-message.invariant.fewer, c.loop-message-test.false, c.unread_len-message-end.ensures)))
