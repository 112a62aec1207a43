use Rattle.std.proofs.Common.{ℕ, List, Option}
use Rattle.ei_emit.specs.Stands.{emitter, IsStanding, Begins}
use Rattle.ei_emit.proofs.Whole.{IsSoFar}
use Rattle.ei_emit.proofs.emitter.Emitter.play_all.Given as goal

abbrev pub invariant-loop-place : goal.invariant-loop-place
invariant-loop-place g l = record {
  standing : IsStanding (emitter l.self.pair l.self.seat l.self.devices.added.items);
  so_far : (start : ℕ) (told : Option (List ℕ)) → Begins start told (g.C.Clock.view l.fn.clock).left (emitter l.fn.self.pair l.fn.self.seat l.fn.self.devices.added.items) →
      IsSoFar start l.steps l.place told (g.C.Clock.view l.clock).left l.fn.out.items l.out.items (emitter l.self.pair l.self.seat l.self.devices.added.items);
  later : g.C.Clock.later l.fn.clock l.clock;
}
