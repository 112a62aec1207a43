use Rattle.std.proofs.Common.{ap, ◌∙◌}
use Rattle.reis_report.specs.RequestLine.{request_text}
use Rattle.reis_run.proofs.TellLaws.{line_more}
use Rattle.reis_run.proofs.tell.push_requests.Goals as goal

pub loop-request-preserved : goal.loop-request-preserved
loop-request-preserved c =
    line_more _ _ _ _ c.args.requests.now c.loop-request.request-index c.request-item.result c.loop-request.invariant c.loop-request-test.true
    (c.as_str.ensures ∙ c.in_ok-line.ensures ∙ ap request_text c.request-item.is) c.in_ok-push_line.ensures.ok
