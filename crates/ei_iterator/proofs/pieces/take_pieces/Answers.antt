use Rattle.std.proofs.Common.{Err, refl, ap, ◌∙◌, arith}
use Rattle.std.proofs.lemmas.Result.{err_from_is_err_and}
use Rattle.ei_types.specs.declared.error.Error.{Error}
use Rattle.ei_backend.proofs.Lending.{untouched_source, source_twice, untouched_sink, sink_twice, untouched_clock, clock_twice}
use Rattle.ei_blocking.proofs.Lent.{source_gave, sink_unfailed}
use Rattle.ei_iterator.proofs.Running.{starts, all_given, messages_fail, event_given, at_limit, one_read, came_at_last, source_failed, reading_fails}
use Rattle.ei_iterator.proofs.pieces.take_pieces.Goals as goal

pub loop-piece-init : goal.loop-piece-init
loop-piece-init g c = record {
  running = starts _ _ _ _ c.requires.empty;
  source = untouched_source (g.met.S.Source.later_refl _);
  sink = untouched_sink (g.met.K.Sink.later_refl _);
  clock = untouched_clock (g.met.C.Clock.later_refl _);
}

-- a message was refused, or cut short
pub returns-in_err-take_all-clause-nexts : goal.returns-in_err-take_all-clause-nexts
returns-in_err-take_all-clause-nexts g c = λ told left are.
    let p = err_from_is_err_and c.from_residual.result c.from_residual.ensures.1 in
    let r = c.loop-piece.invariant.running in
    messages_fail _ _ _ _ _ _ _ r told left _ _ _ c.from_residual.result _ c.in_err-take_all.was (p.1 ∙ ap (λ (e : Error). Err e) p.2) (c.take_all.ensures.steps c.args.pieces _ r.turns r.ran) are

pub returns-in_err-take_all-clause-gave : goal.returns-in_err-take_all-clause-gave
returns-in_err-take_all-clause-gave g c = all_given _ _ _ _ _ _ _ c.loop-piece.invariant.running

-- an event is queued
pub returns-in-Some-clause-nexts : goal.returns-in-Some-clause-nexts
returns-in-Some-clause-nexts g c = λ told left are.
    let r = c.loop-piece.invariant.running in
    event_given _ _ _ _ _ _ _ r c.take_all.result _ _ c.in_ok-take_all.was (c.take_all.ensures.steps c.args.pieces _ r.turns r.ran) told left _ c.in-Some.event _ c.next_event.new.self c.in-Some.is c.next_event.ensures.first c.next_event.ensures.rest are

pub returns-in-Some-clause-gave : goal.returns-in-Some-clause-gave
returns-in-Some-clause-gave g c = all_given _ _ _ _ _ _ _ c.loop-piece.invariant.running

-- reading a piece failed
pub returns-in_err-read-clause-nexts : goal.returns-in_err-read-clause-nexts
returns-in_err-read-clause-nexts g c = λ told left are.
    let p = err_from_is_err_and c.from_residual-in_err-read.result c.from_residual-in_err-read.ensures.1 in
    let r = c.loop-piece.invariant.running in
    reading_fails _ _ _ _ _ _ _ r c.take_all.result _ _ c.in_ok-take_all.was (c.take_all.ensures.steps c.args.pieces _ r.turns r.ran) _ c.next_event.new.self c.in_default.is c.next_event.ensures.first c.next_event.ensures.rest c.loop-piece-test.true
    c.loop-piece.source c.read.new.source refl c.read.new.self _ c.in_err-read.ensures.reads told left c.from_residual-in_err-read.result (p.1 ∙ ap (λ (e : Error). Err e) p.2) are

pub returns-in_err-read-clause-gave : goal.returns-in_err-read-clause-gave
returns-in_err-read-clause-gave g c =
    let r = c.loop-piece.invariant.running in
    came_at_last _ _ _ _ _ _ _ r c.take_all.result _ _ c.in_ok-take_all.was (c.take_all.ensures.steps c.args.pieces _ r.turns r.ran) _ c.next_event.new.self c.in_default.is c.next_event.ensures.first c.next_event.ensures.rest
    c.loop-piece.source c.read.new.source refl c.read.new.self _ c.in_err-read.ensures.reads

pub returns-in_err-read-clause-source : goal.returns-in_err-read-clause-source
returns-in_err-read-clause-source g c =
    let p = err_from_is_err_and c.from_residual-in_err-read.result c.from_residual-in_err-read.ensures.1 in
    let r = c.loop-piece.invariant.running in
    source_failed _ _ _ _ _ _ _ r c.take_all.result _ _ c.in_ok-take_all.was (c.take_all.ensures.steps c.args.pieces _ r.turns r.ran) _ c.next_event.new.self c.in_default.is c.next_event.ensures.first c.next_event.ensures.rest
    _ c.loop-piece.source c.read.new.source g.met.S.Source.later_trans c.loop-piece.invariant.source c.read.new.self _ c.in_err-read.ensures.reads c.from_residual-in_err-read.result (p.1 ∙ ap (λ (e : Error). Err e) p.2)

-- one piece more was read
pub loop-piece-preserved : goal.loop-piece-preserved
loop-piece-preserved g c = record {
  running =
      let r = c.loop-piece.invariant.running in
      one_read _ _ _ _ _ _ _ r c.take_all.result _ _ c.in_ok-take_all.was (c.take_all.ensures.steps c.args.pieces _ r.turns r.ran) _ c.next_event.new.self c.in_default.is c.next_event.ensures.first c.next_event.ensures.rest c.loop-piece-test.true
      c.loop-piece.source c.read.new.source refl c.read.new.self _ c.in_ok-read.ensures.reads;
  source = source_twice g.met.S.Source.later_trans (λ f. f) c.loop-piece.invariant.source (source_gave _ _ c.in_ok-read.ensures.reads.lent);
  sink = sink_twice g.met.K.Sink.later_trans (λ f. f) c.loop-piece.invariant.sink (sink_unfailed _ _ c.in_ok-take_all.ensures.sink);
  clock = clock_twice g.met.C.Clock.later_trans c.loop-piece.invariant.clock c.in_ok-take_all.ensures.clock;
}

-- as many pieces as may be were taken
pub returns-in_err-take_all-2-clause-nexts : goal.returns-in_err-take_all-2-clause-nexts
returns-in_err-take_all-2-clause-nexts g c = λ told left are.
    let p = err_from_is_err_and c.from_residual-in_err-take_all-2.result c.from_residual-in_err-take_all-2.ensures.1 in
    let r = c.loop-piece.invariant.running in
    messages_fail _ _ _ _ _ _ _ r told left _ _ _ c.from_residual-in_err-take_all-2.result _ c.in_err-take_all-2.was (p.1 ∙ ap (λ (e : Error). Err e) p.2) (c.take_all-2.ensures.steps c.args.pieces _ r.turns r.ran) are

pub returns-in_err-take_all-2-clause-gave : goal.returns-in_err-take_all-2-clause-gave
returns-in_err-take_all-2-clause-gave g c = all_given _ _ _ _ _ _ _ c.loop-piece.invariant.running

pub returns-in-Some-next_event-clause-nexts : goal.returns-in-Some-next_event-clause-nexts
returns-in-Some-next_event-clause-nexts g c = λ told left are.
    let r = c.loop-piece.invariant.running in
    event_given _ _ _ _ _ _ _ r c.take_all-2.result _ _ c.in_ok-take_all-2.was (c.take_all-2.ensures.steps c.args.pieces _ r.turns r.ran) told left _ c.in-Some-next_event.event _ c.next_event-2.new.self c.in-Some-next_event.is c.next_event-2.ensures.first c.next_event-2.ensures.rest are

pub returns-in-Some-next_event-clause-gave : goal.returns-in-Some-next_event-clause-gave
returns-in-Some-next_event-clause-gave g c = all_given _ _ _ _ _ _ _ c.loop-piece.invariant.running

pub returns-in-None-clause-nexts : goal.returns-in-None-clause-nexts
returns-in-None-clause-nexts g c = λ told left are.
    let r = c.loop-piece.invariant.running in
    at_limit _ _ _ _ _ _ _ r c.take_all-2.result _ _ c.in_ok-take_all-2.was (c.take_all-2.ensures.steps c.args.pieces _ r.turns r.ran) _ c.next_event-2.new.self c.in-None.is c.next_event-2.ensures.first c.next_event-2.ensures.rest told left _
    (omega (arith, c.loop-piece-test.false, c.loop-piece.auto._piece-end)) are

pub returns-in-None-clause-gave : goal.returns-in-None-clause-gave
returns-in-None-clause-gave g c = all_given _ _ _ _ _ _ _ c.loop-piece.invariant.running
