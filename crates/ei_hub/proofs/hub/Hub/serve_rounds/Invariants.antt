use Rattle.std.proofs.Common.{ℕ}
use Rattle.ei_backend.specs.Lent.{LentClock}
use Rattle.ei_hub.specs.Clients.{ForBoth, SameHub}
use Rattle.ei_hub.specs.Clocks.{GaveReadings}
use Rattle.ei_hub.specs.Since.{Since}
use Rattle.ei_hub.proofs.hub.Hub.serve_rounds.Given as goal

abbrev pub invariant-loop-round : goal.invariant-loop-round
invariant-loop-round g l = record {
  same : SameHub l.fn.self l.self;
  since : (k : ℕ) → ForBoth k l.fn.self l.self (λ c d. Since g.S.Source.view g.S.Source.later g.K.Sink.view g.K.Sink.later l._round (g.C.Clock.view l.fn.clock).left (g.C.Clock.view l.clock).left c d);
  clock : LentClock g.C.Clock.later l.fn.clock l.clock;
  gave : GaveReadings (g.C.Clock.view l.fn.clock).left (g.C.Clock.view l.clock).left;
}
