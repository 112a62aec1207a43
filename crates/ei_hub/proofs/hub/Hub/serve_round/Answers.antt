use Rattle.std.proofs.Common.{◌≡◌, ◌<◌, ◌∙◌, true, false, length, refl, sym, rules, arith}
use Rattle.ei_backend.proofs.Lending.{untouched_clock, clock_twice}
use Rattle.ei_hub.proofs.Readings.{gave_nothing, gave_then}
use Rattle.ei_hub.proofs.Rounds.{starts, done_more, rest_less, ended_more}
use Rattle.ei_hub.proofs.hub.Hub.serve_round.Goals as goal
use Rattle.ei_hub.proofs.hub.Hub.serve_round.Goals.{then-serve_at, else-serve_at}

pub loop-at-init : goal.loop-at-init
loop-at-init g c = record {
  same = record { count = refl; setup = refl };
  most = search rules;
  done = λ k lt. absurd (omega (arith, lt));
  rest = λ k le. starts g.S.Source.view g.S.Source.later g.K.Sink.view g.K.Sink.later
      g.met.S.Source.later_refl g.met.K.Sink.later_refl g.met.S.Source.later_trans g.met.K.Sink.later_trans (g.C.Clock.view c.args.clock.now).left c.args.self.now.clients.items k;
  clock = untouched_clock (g.met.C.Clock.later_refl _);
  gave = gave_nothing _;
  ended = λ off k lt. absurd (omega (arith, lt));
}

pub loop-at-preserved : goal.loop-at-preserved
loop-at-preserved g c =
    let lt : c.loop-at.at < length c.loop-at.self.clients.items = omega (arith, c.loop-at-test.true, c.loop-at.invariant.most) in
    record {
      same = record { count = c.serve_at.ensures.same.count ∙ c.loop-at.invariant.same.count; setup = c.serve_at.ensures.same.setup ∙ c.loop-at.invariant.same.setup };
      most = c.loop-at.invariant.most ∙ sym c.serve_at.ensures.same.count;
      done = done_more g.S.Source.view g.S.Source.later g.K.Sink.view g.K.Sink.later
          g.met.S.Source.later_refl g.met.K.Sink.later_refl g.met.S.Source.later_trans g.met.K.Sink.later_trans _ _ _
          c.args.self.now.clients.items c.loop-at.self.clients.items c.serve_at.new.self.clients.items c.loop-at.at c.serve_at.ensures.gave c.serve_at.ensures.others
          lt c.loop-at.invariant.done (c.loop-at.invariant.rest c.loop-at.at (omega arith)) c.serve_at.ensures.since;
      rest = rest_less g.S.Source.view g.S.Source.later g.K.Sink.view g.K.Sink.later
          g.met.S.Source.later_refl g.met.K.Sink.later_refl g.met.S.Source.later_trans g.met.K.Sink.later_trans _ _ _
          c.args.self.now.clients.items c.loop-at.self.clients.items c.serve_at.new.self.clients.items c.loop-at.at c.serve_at.ensures.gave c.serve_at.ensures.others
          c.loop-at.invariant.rest;
      clock = clock_twice g.met.C.Clock.later_trans c.loop-at.invariant.clock c.serve_at.ensures.clock;
      gave = gave_then _ _ _ c.loop-at.invariant.gave c.serve_at.ensures.gave;
      ended = λ off. elim c.if-serve_at.branch [
        | then-serve_at w ↦ (let on : c.if-serve_at.goes_on ≡ true = w.goes_on-is in absurd cc)
        | else-serve_at w ↦
            (let before : c.loop-at.goes_on ≡ false = sym w.goes_on-is ∙ off in
            ended_more c.loop-at.self.clients.items c.serve_at.new.self.clients.items c.loop-at.at c.serve_at.ensures.others (c.loop-at.invariant.ended before) (c.serve_at.ensures.ended w.if-serve_at.false))
      ];
    }
