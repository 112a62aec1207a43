use Rattle.std.proofs.Common.{◌≡◌, ◌≤◌, ◌-◌, Some, length, take}
use Rattle.ei_backend.specs.Outside.{Piece}
use Rattle.reis_report.specs.Report.{Holds}
use Rattle.reis_report.proofs.report.write_all.Given as goal

abbrev pub invariant-loop-done : goal.invariant-loop-done
invariant-loop-done g l = record {
  within : l.done ≤ length l.text;
  written : (held : Piece) → (g.O.Sink.view l.fn.output).taken ≡ Some held → Holds held (take l.done l.text) (g.O.Sink.view l.output).taken;
  kept : (g.O.Sink.view l.output).faults ≡ (g.O.Sink.view l.fn.output).faults;
  wants : (g.O.Sink.view l.output).wants ≡ (g.O.Sink.view l.fn.output).wants;
  later : g.O.Sink.later l.fn.output l.output;
}

abbrev pub decreases-loop-done : goal.decreases-loop-done
decreases-loop-done g l = length l.text - l.done
