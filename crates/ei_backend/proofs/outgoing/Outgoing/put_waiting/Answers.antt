use Rattle.std.proofs.Common.{◌≡◌, ◌<◌, [], length, OnOk, OnErr, ap, arith}
use Rattle.ei_spec.specs.Piece.{Piece}
use Rattle.ei_backend.proofs.GoingOut.{stops_after, flushes}
use Rattle.ei_backend.proofs.outgoing.Outgoing.put_waiting.Goals as goal

pub returns-clause-flushes : goal.returns-clause-flushes
returns-clause-flushes g c =
    let old : Piece = record { bytes = c.self.inside.bytes.items; handles = c.self.inside.handles.items } in
    let left : OnErr c.put_all-done.result.1 (c.put_all-done.result.0 < length old.bytes) = rw (← c.deref.ensures.value) c.put_all-done.ensures.left in
    let all : OnOk c.put_all-done.result.1 (c.put_all-done.result.0 ≡ length old.bytes) = rw (← c.deref.ensures.value) c.put_all-done.ensures.ok in
    record {
      stops = rw (← c.self.view_is) (stops_after old c.put_all-done.result.0 c.put_all-done.result.1 _ _ c.self.invariant.has_bytes all left c.drop_front.ensures.items c.drop_beside.ensures.items);
      went = record {
        took = λ held told. rw (← c.self.view_is) (flushes held old c.put_all-done.result.0 c.put_all-done.result.1 _ _ _ c.self.invariant.has_bytes all left c.drop_front.ensures.items c.drop_beside.ensures.items
            (rw (← c.deref.ensures.value, ← c.deref-2.ensures.value) (c.put_all-done.ensures.took held told)));
        puts = rw (← c.self.view_is, ← c.deref.ensures.value, ← c.deref-2.ensures.value) c.put_all-done.ensures.puts;
      };
      nothing = λ none. absurd (omega (arith, ap length none, c.requires.some));
      lent = c.put_all-done.ensures.sink;
    }
