use Rattle.std.proofs.Common.{List}
use Rattle.ei_ends.specs.Sent.{Sent}
use Rattle.ei_linked.specs.Held.{stored_by}
use Rattle.ei_linked.specs.Written.{AreWritten, HasMore}
use Rattle.ei_linked.proofs.Storing.{Going}
use Rattle.ei_linked.proofs.half.Half.store_all.Given as goal

abbrev pub invariant-loop-message : goal.invariant-loop-message
invariant-loop-message g l = record {
  goes : (ms : List Sent) → AreWritten l.fn.events l.fn.before ms (stored_by g.C.HasBackend.seen l.fn.self) → Going g.C.HasBackend.seen l.fn.events l.fn.before l.at l._message ms l.fn.self l.self;
  more : HasMore l.fn.self l.self;
}
