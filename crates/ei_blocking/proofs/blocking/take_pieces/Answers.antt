use Rattle.std.proofs.Common.{Option, Ok, Err, refl, ap, ◌∙◌, arith}
use Rattle.std.proofs.lemmas.Result.{err_from_is_err_and}
use Rattle.ei_types.specs.declared.error.Error.{Error}
use Rattle.ei_backend.proofs.Lending.{untouched_source, source_twice, untouched_sink, sink_twice}
use Rattle.ei_handshake.specs.declared.client.HandshakeResp.{HandshakeResp}
use Rattle.ei_blocking.proofs.Lent.{source_gave, sink_unfailed}
use Rattle.ei_blocking.proofs.Running.{starts, messages_fail, handed_over, at_limit, one_read, came_at_last, reading_fails}
use Rattle.ei_blocking.proofs.blocking.take_pieces.Goals as goal

pub loop-piece-init : goal.loop-piece-init
loop-piece-init g c = record {
  running = starts c.args.handshaker.now.greeter c.args.ctx.now _ _ _ c.requires.begun;
  source = untouched_source (g.met.S.Source.later_refl _);
  sink = untouched_sink (g.met.K.Sink.later_refl _);
}

-- a message was refused, or cut short
pub returns-in_err-resp-clause-opens : goal.returns-in_err-resp-clause-opens
returns-in_err-resp-clause-opens g c = λ told left are.
    let p = err_from_is_err_and c.from_residual.result c.from_residual.ensures.1 in
    let r = c.loop-piece.invariant.running in
    messages_fail _ _ _ _ _ _ _ _ _ r c.args.pieces (omega (arith, c.loop-piece-test.true)) told left _ _ _ _ c.handle_all.new.handshaker (g.K.Sink.view c.handle_all.new.sink) c.handle_all.new.ctx c.in_err-resp.was (p.1 ∙ ap (λ (e : Error). Err e) p.2)
    (c.handle_all.ensures.steps c.args.handshaker.now.greeter r.turned.c r.turned.past _ r.turned.shakes r.turned.sends) are

-- the connection came
pub returns-in-Some-clause-opens : goal.returns-in-Some-clause-opens
returns-in-Some-clause-opens g c = λ told left are.
    let r = c.loop-piece.invariant.running in
    handed_over _ _ _ _ _ _ _ _ _ r c.args.pieces (omega (arith, c.loop-piece-test.true)) told left _ c.in-Some.resp _ c.handle_all.new.handshaker (g.K.Sink.view c.handle_all.new.sink) c.handle_all.new.ctx (c.in_ok-resp.was ∙ ap (λ (o : Option HandshakeResp). Ok o) c.in-Some.is)
    (c.handle_all.ensures.steps c.args.handshaker.now.greeter r.turned.c r.turned.past _ r.turned.shakes r.turned.sends) are

-- reading a piece failed
pub returns-in_err-read-clause-opens : goal.returns-in_err-read-clause-opens
returns-in_err-read-clause-opens g c = λ told left are.
    let p = err_from_is_err_and c.from_residual-in_err-read.result c.from_residual-in_err-read.ensures.1 in
    let r = c.loop-piece.invariant.running in
    reading_fails _ _ _ _ _ _ _ _ _ r c.handle_all.new.handshaker (g.K.Sink.view c.handle_all.new.sink) c.handle_all.new.ctx c.read.new.self c.loop-piece.source c.read.new.source refl _ (c.in_ok-resp.was ∙ ap (λ (o : Option HandshakeResp). Ok o) c.in_default.is)
    (c.handle_all.ensures.steps c.args.handshaker.now.greeter r.turned.c r.turned.past _ r.turned.shakes r.turned.sends) _ c.in_err-read.ensures.reads
    c.args.pieces c.loop-piece-test.true told left _ (p.1 ∙ ap (λ (e : Error). Err e) p.2) are

pub returns-in_err-read-clause-gave : goal.returns-in_err-read-clause-gave
returns-in_err-read-clause-gave g c =
    let r = c.loop-piece.invariant.running in
    came_at_last _ _ _ _ _ _ _ _ _ r c.handle_all.new.handshaker (g.K.Sink.view c.handle_all.new.sink) c.handle_all.new.ctx c.read.new.self c.loop-piece.source c.read.new.source refl _ (c.in_ok-resp.was ∙ ap (λ (o : Option HandshakeResp). Ok o) c.in_default.is)
    (c.handle_all.ensures.steps c.args.handshaker.now.greeter r.turned.c r.turned.past _ r.turned.shakes r.turned.sends) _ c.in_err-read.ensures.reads

-- one piece more was read
pub loop-piece-preserved : goal.loop-piece-preserved
loop-piece-preserved g c = record {
  running =
      let r = c.loop-piece.invariant.running in
      one_read _ _ _ _ _ _ _ _ _ r c.handle_all.new.handshaker (g.K.Sink.view c.handle_all.new.sink) c.handle_all.new.ctx c.read.new.self c.loop-piece.source c.read.new.source refl _ (c.in_ok-resp.was ∙ ap (λ (o : Option HandshakeResp). Ok o) c.in_default.is)
      (c.handle_all.ensures.steps c.args.handshaker.now.greeter r.turned.c r.turned.past _ r.turned.shakes r.turned.sends) _ c.in_ok-read.ensures.reads;
  source = source_twice g.met.S.Source.later_trans (λ f. f) c.loop-piece.invariant.source (source_gave _ _ c.in_ok-read.ensures.reads.lent);
  sink = sink_twice g.met.K.Sink.later_trans (λ f. f) c.loop-piece.invariant.sink (sink_unfailed _ _ c.in_ok-resp.ensures.sink);
}

-- as many pieces as may be were taken
pub returns-in_err-resp-2-clause-opens : goal.returns-in_err-resp-2-clause-opens
returns-in_err-resp-2-clause-opens g c = λ told left are.
    let p = err_from_is_err_and c.from_residual-in_err-resp-2.result c.from_residual-in_err-resp-2.ensures.1 in
    let r = c.loop-piece.invariant.running in
    messages_fail _ _ _ _ _ _ _ _ _ r c.args.pieces c.loop-piece.auto._piece-end told left _ _ _ _ c.handle_all-2.new.handshaker (g.K.Sink.view c.handle_all-2.new.sink) c.handle_all-2.new.ctx c.in_err-resp-2.was (p.1 ∙ ap (λ (e : Error). Err e) p.2)
    (c.handle_all-2.ensures.steps c.args.handshaker.now.greeter r.turned.c r.turned.past _ r.turned.shakes r.turned.sends) are

pub returns-in-Some-2-clause-opens : goal.returns-in-Some-2-clause-opens
returns-in-Some-2-clause-opens g c = λ told left are.
    let r = c.loop-piece.invariant.running in
    handed_over _ _ _ _ _ _ _ _ _ r c.args.pieces c.loop-piece.auto._piece-end told left _ c.in-Some-2.resp _ c.handle_all-2.new.handshaker (g.K.Sink.view c.handle_all-2.new.sink) c.handle_all-2.new.ctx (c.in_ok-resp-2.was ∙ ap (λ (o : Option HandshakeResp). Ok o) c.in-Some-2.is)
    (c.handle_all-2.ensures.steps c.args.handshaker.now.greeter r.turned.c r.turned.past _ r.turned.shakes r.turned.sends) are

pub returns-in-None-clause-opens : goal.returns-in-None-clause-opens
returns-in-None-clause-opens g c = λ told left are.
    let r = c.loop-piece.invariant.running in
    at_limit _ _ _ _ _ _ _ _ _ r c.args.pieces c.loop-piece.auto._piece-end told left _ _ c.handle_all-2.new.handshaker (g.K.Sink.view c.handle_all-2.new.sink) c.handle_all-2.new.ctx (omega (arith, c.loop-piece-test.false, c.loop-piece.auto._piece-end)) (c.in_ok-resp-2.was ∙ ap (λ (o : Option HandshakeResp). Ok o) c.in-None.is)
    (c.handle_all-2.ensures.steps c.args.handshaker.now.greeter r.turned.c r.turned.past _ r.turned.shakes r.turned.sends) are
