use Rattle.std.proofs.Common.{◌≡◌, ◌<◌, ◌≤◌, ℕ, false}
use Rattle.std.specs.Prelude.{IsSome}
use Rattle.ei_backend.specs.Lent.{LentClock}
use Rattle.ei_hub.specs.Clients.{count_of, ForClient, ForBoth, SameHub}
use Rattle.ei_hub.specs.Clocks.{GaveReadings}
use Rattle.ei_hub.specs.Since.{Since}
use Rattle.ei_hub.proofs.hub.Hub.serve_round.Given as goal

abbrev pub invariant-loop-at : goal.invariant-loop-at
invariant-loop-at g l = record {
  same : SameHub l.fn.self l.self;
  most : l.at-end ≡ count_of l.self;
  done : (k : ℕ) → k < l.at → ForBoth k l.fn.self l.self (λ c d. Since g.S.Source.view g.S.Source.later g.K.Sink.view g.K.Sink.later 1 (g.C.Clock.view l.fn.clock).left (g.C.Clock.view l.clock).left c d);
  rest : (k : ℕ) → l.at ≤ k → ForBoth k l.fn.self l.self (λ c d. Since g.S.Source.view g.S.Source.later g.K.Sink.view g.K.Sink.later 0 (g.C.Clock.view l.fn.clock).left (g.C.Clock.view l.clock).left c d);
  clock : LentClock g.C.Clock.later l.fn.clock l.clock;
  gave : GaveReadings (g.C.Clock.view l.fn.clock).left (g.C.Clock.view l.clock).left;
  ended : l.goes_on ≡ false → (k : ℕ) → k < l.at → ForClient k l.self (λ d. IsSome d.end);
}
