use Rattle.std.proofs.Common.{◌++◌, ◌∙◌, Result, Err, refl}
use Rattle.ei_backend.proofs.Lending.{untouched_sink, sink_twice, untouched_clock, clock_twice}
use Rattle.ei_types.specs.declared.error.Error.{Error}
use Rattle.ei_types.specs.declared.error.Error.TheVariants as error
use Rattle.ei_serve.specs.declared.session.Turn.{Turn}
use Rattle.ei_serve.specs.Around.{around, no_source}
use Rattle.ei_serve.specs.Standing.{terms_of}
use Rattle.ei_serve.proofs.Lent.{sink_passed, sink_unfailed, sink_ok}
use Rattle.ei_serve.proofs.Handling.{none_yet, one_more, waits, ends, refused, all_read, all_rounds, unread_at}
use Rattle.ei_serve.proofs.phase.Phase.handle_messages.Goals as goal

pub loop-message-init : goal.loop-message-init
loop-message-init g c = record {
  handling = λ past times rest handles h. none_yet (terms_of c.args.start.terms) past times rest handles c.args.self.now (around no_source c.args.out.now.items _ _) h;
  sink = untouched_sink (g.met.K.Sink.later_refl _);
  clock = untouched_clock (g.met.C.Clock.later_refl _);
}

pub returns-in-Err-clause-handles : goal.returns-in-Err-clause-handles
returns-in-Err-clause-handles g c = λ past times rest handles s.
    let h = c.loop-message.invariant.handling past times rest handles s in
    refused (terms_of c.args.start.terms) past times rest handles _ _ c.step.new.self _ _ _ h (Err c.step.new.why) c.step.new.why refl (c.in-Err.ensures.steps h.now (times ++ h.used) h.unread handles h.phase)

pub returns-in-Waiting-clause-handles : goal.returns-in-Waiting-clause-handles
returns-in-Waiting-clause-handles g c = λ past times rest handles s.
    let h = c.loop-message.invariant.handling past times rest handles s in
    waits (terms_of c.args.start.terms) past times rest handles _ _ _ _ _ _ h (rw c.in-Waiting.is at (c.in-Ok.ensures.steps h.now (times ++ h.used) h.unread handles h.phase))

pub returns-in-Disconnect-clause-handles : goal.returns-in-Disconnect-clause-handles
returns-in-Disconnect-clause-handles g c = λ past times rest handles s.
    let h = c.loop-message.invariant.handling past times rest handles s in
    ends (terms_of c.args.start.terms) past times rest handles _ _ c.step.new.self _ _ _ h (rw c.in-Disconnect.is at (c.in-Ok.ensures.steps h.now (times ++ h.used) h.unread handles h.phase))

pub loop-message-preserved : goal.loop-message-preserved
loop-message-preserved g c = record {
  handling = λ past times rest handles s.
      let h = c.loop-message.invariant.handling past times rest handles s in
      one_more (terms_of c.args.start.terms) past times rest handles _ _ _ _ _ _ h (rw c.in-Handled.is at (c.in-Ok.ensures.steps h.now (times ++ h.used) h.unread handles h.phase));
  sink = sink_twice g.met.K.Sink.later_trans (λ f. f) c.loop-message.invariant.sink (sink_unfailed _ _ c.in-Ok.ensures.sink);
  clock = clock_twice g.met.C.Clock.later_trans c.loop-message.invariant.clock c.in-Ok.ensures.clock;
}

pub returns-clause-handles : goal.returns-clause-handles
returns-clause-handles g c = λ past times rest handles s.
    let h = c.loop-message.invariant.handling past times rest handles s in
    all_read (terms_of c.args.start.terms) past times rest handles _ _ _ _ h (all_rounds _ _ _ c.loop-message-test.false c.loop-message.auto._message-end (c.unread_len-message-end.ensures ∙ unread_at (terms_of c.args.start.terms) past times rest handles _ s))

pub returns-in-Err-clause-sink : goal.returns-in-Err-clause-sink
returns-in-Err-clause-sink g c =
    let answer : Result Turn Error = Err c.step.new.why in
    sink_passed answer c.step.new.why error.WriteFault refl (sink_twice g.met.K.Sink.later_trans (λ f. f) c.loop-message.invariant.sink c.in-Err.ensures.sink)

pub returns-in-Err-clause-clock : goal.returns-in-Err-clause-clock
returns-in-Err-clause-clock g c = clock_twice g.met.C.Clock.later_trans c.loop-message.invariant.clock c.in-Err.ensures.clock

pub returns-in-Waiting-clause-sink : goal.returns-in-Waiting-clause-sink
returns-in-Waiting-clause-sink g c = sink_ok _ _ (sink_twice g.met.K.Sink.later_trans (λ f. f) c.loop-message.invariant.sink (sink_unfailed _ _ c.in-Ok.ensures.sink))

pub returns-in-Waiting-clause-clock : goal.returns-in-Waiting-clause-clock
returns-in-Waiting-clause-clock g c = clock_twice g.met.C.Clock.later_trans c.loop-message.invariant.clock c.in-Ok.ensures.clock

pub returns-in-Disconnect-clause-sink : goal.returns-in-Disconnect-clause-sink
returns-in-Disconnect-clause-sink g c = sink_ok _ _ (sink_twice g.met.K.Sink.later_trans (λ f. f) c.loop-message.invariant.sink (sink_unfailed _ _ c.in-Ok.ensures.sink))

pub returns-in-Disconnect-clause-clock : goal.returns-in-Disconnect-clause-clock
returns-in-Disconnect-clause-clock g c = clock_twice g.met.C.Clock.later_trans c.loop-message.invariant.clock c.in-Ok.ensures.clock

pub returns-clause-sink : goal.returns-clause-sink
returns-clause-sink g c = sink_ok _ _ c.loop-message.invariant.sink
