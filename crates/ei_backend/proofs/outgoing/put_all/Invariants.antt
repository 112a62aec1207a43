use Rattle.std.proofs.Common.{◌≡◌, ◌≤◌, ◌-◌, length, take}
use Rattle.std.specs.Prelude.{Some}
use Rattle.ei_backend.specs.Outside.{Piece, with_more}
use Rattle.ei_backend.specs.Outgoing.{beside, IsPutOf}
use Rattle.ei_backend.proofs.outgoing.put_all.Given as goal

abbrev pub invariant-loop-done : goal.invariant-loop-done
invariant-loop-done g l = record {
  within : l.done ≤ length l.bytes;
  taken : (held : Piece) → (g.K.Sink.view l.fn.sink).taken ≡ Some held → (g.K.Sink.view l.sink).taken ≡ Some (with_more (take l.done l.bytes) (beside l.done l.handles) held);
  puts : IsPutOf (record { bytes = l.bytes; handles = l.handles }) (g.K.Sink.view l.fn.sink).puts (g.K.Sink.view l.sink).puts;
  kept : (g.K.Sink.view l.sink).faults ≡ (g.K.Sink.view l.fn.sink).faults;
  kept_wants : (g.K.Sink.view l.sink).wants ≡ (g.K.Sink.view l.fn.sink).wants;
  later : g.K.Sink.later l.fn.sink l.sink;
}

abbrev pub decreases-loop-done : goal.decreases-loop-done
decreases-loop-done g l = length l.bytes - l.done
