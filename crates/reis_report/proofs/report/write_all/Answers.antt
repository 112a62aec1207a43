use Rattle.std.proofs.Common.{arith, drop, length-drop, ◌∙◌}
use Rattle.std.proofs.lemmas.List.{take_all}
use Rattle.reis_report.proofs.ReportLaws.{put_on}
use Rattle.reis_report.proofs.report.write_all.Goals as goal

pub loop-done-preserved : goal.loop-done-preserved
loop-done-preserved g c =
    let text = c.args.text.now in
    let done = c.loop-done.done in
    record {
      within = omega (arith, length-drop done text, c.in_ok-done.ensures.size.at_most);
      written = λ held told.
          put_on held text _ done _ _ _ (c.loop-done.invariant.written held told) (take_all _ (drop done text) (omega (arith, length-drop done text))) c.in_ok-done.ensures.puts.taken;
      kept = c.in_ok-done.ensures.puts.cause.kept ∙ c.loop-done.invariant.kept;
      wants = c.in_ok-done.ensures.puts.want.kept ∙ c.loop-done.invariant.wants;
      later = g.met.O.Sink.later_trans _ _ _ c.loop-done.invariant.later c.in_ok-done.ensures.later;
    }
