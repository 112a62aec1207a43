use Rattle.std.proofs.Common.{◌≡◌, ◌<◌, ◌+◌, ◌∙◌, refl, ap, arith}
use Rattle.ei_session.specs.Setup.{Setup}
use Rattle.ei_backend.proofs.Lending.{untouched_clock, clock_twice}
use Rattle.ei_hub.proofs.Readings.{gave_nothing, gave_then}
use Rattle.ei_hub.proofs.Rounds.{starts, all_then, all_ended}
use Rattle.ei_hub.proofs.Sinces.{since_fewer}
use Rattle.ei_hub.proofs.hub.Hub.serve_rounds.Goals as goal

pub loop-round-init : goal.loop-round-init
loop-round-init g c = record {
  same = record { count = refl; setup = refl };
  since = λ k. starts g.S.Source.view g.S.Source.later g.K.Sink.view g.K.Sink.later
      g.met.S.Source.later_refl g.met.K.Sink.later_refl g.met.S.Source.later_trans g.met.K.Sink.later_trans (g.C.Clock.view c.args.clock.now).left c.args.self.now.clients.items k;
  clock = untouched_clock (g.met.C.Clock.later_refl _);
  gave = gave_nothing _;
}

pub loop-round-preserved : goal.loop-round-preserved
loop-round-preserved g c = record {
  same = record { count = c.serve_round.ensures.same.count ∙ c.loop-round.invariant.same.count; setup = c.serve_round.ensures.same.setup ∙ c.loop-round.invariant.same.setup };
  since = all_then g.S.Source.view g.S.Source.later g.K.Sink.view g.K.Sink.later
      g.met.S.Source.later_refl g.met.K.Sink.later_refl g.met.S.Source.later_trans g.met.K.Sink.later_trans _ 1 _ _ _
      c.args.self.now.clients.items c.loop-round.self.clients.items c.serve_round.new.self.clients.items c.serve_round.ensures.same.count c.serve_round.ensures.gave c.loop-round.invariant.since c.serve_round.ensures.since;
  clock = clock_twice g.met.C.Clock.later_trans c.loop-round.invariant.clock c.serve_round.ensures.clock;
  gave = gave_then _ _ _ c.loop-round.invariant.gave c.serve_round.ensures.gave;
}

-- nobody goes on behind a round
pub returns-then-not-serve_round-clause-since : goal.returns-then-not-serve_round-clause-since
returns-then-not-serve_round-clause-since g c = λ k d e at now.
    since_fewer g.S.Source.view g.S.Source.later g.K.Sink.view g.K.Sink.later
    (c.loop-round._round + 1) _ _ d e
    (all_then g.S.Source.view g.S.Source.later g.K.Sink.view g.K.Sink.later
    g.met.S.Source.later_refl g.met.K.Sink.later_refl g.met.S.Source.later_trans g.met.K.Sink.later_trans c.loop-round._round 1 _ _ _
    c.args.self.now.clients.items c.loop-round.self.clients.items c.serve_round.new.self.clients.items c.serve_round.ensures.same.count c.serve_round.ensures.gave
    c.loop-round.invariant.since c.serve_round.ensures.since k d e at now)

-- nor behind as many as may be
pub returns-clause-since : goal.returns-clause-since
returns-clause-since g c = λ k d e at now.
    since_fewer g.S.Source.view g.S.Source.later g.K.Sink.view g.K.Sink.later
    c.loop-round._round _ _ d e (c.loop-round.invariant.since k d e at now)

pub returns-clause-ended : goal.returns-clause-ended
returns-clause-ended g c =
    let same : c.loop-round.self.setup.pieces ≡ c.args.self.now.setup.pieces = ap (λ (s : Setup). s.pieces) c.loop-round.invariant.same.setup in
    let past : c.loop-round.self.setup.pieces < c.loop-round._round = omega (arith, same, c.loop-round-test.false, c.from-round-end.ensures) in
    all_ended g.S.Source.view g.S.Source.later g.K.Sink.view g.K.Sink.later
    g.met.S.Source.later_refl g.met.K.Sink.later_refl g.met.S.Source.later_trans g.met.K.Sink.later_trans c.loop-round.self.setup.pieces c.loop-round._round _ _
    c.args.self.now.clients.items c.loop-round.self.clients.items c.loop-round.invariant.same.count past c.loop-round.self.within c.loop-round.invariant.since
