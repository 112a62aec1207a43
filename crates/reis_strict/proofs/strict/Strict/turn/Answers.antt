use Rattle.std.proofs.Common.{◌≡◌, sym, ap, subst, ◌∙◌}
use Rattle.reis_eis.specs.Words.{handle_in}
use Rattle.reis_strict.specs.declared.verdict.Verdict.{Verdict}
use Rattle.reis_strict.specs.Acts.{act_of}
use Rattle.reis_strict.specs.Devices.{with_judged}
use Rattle.reis_strict.specs.View.{StrictView, with_devices}
use Rattle.reis_strict.specs.Sifting.{verdict_at}
use Rattle.reis_strict.proofs.Ending.{ended}
use Rattle.reis_strict.proofs.strict.Strict.turn.Goals as goal

pub returns-in-Ok-End : goal.returns-in-Ok-End
returns-in-Ok-End c =
    let free = c.take_waiting.ensures.free in
    let left : StrictView = c.take_waiting.new.self in
    let same : c.judge_at.new.self ≡ with_devices left left.devices =
    subst (λ (v : Verdict). c.judge_at.new.self ≡ with_devices left (with_judged v (act_of c.in-Some.request) left.devices)) c.in-Ok-End.field-0-is c.in-Ok-End.ensures.done in
    ended c.args.self.now c.judge_at.new.self c.end.new.self c.args.connection.now c.take_waiting.new.connection c.end.new.connection c.in-Some.request c.in-Ok-End.fault
    (sym c.take_waiting.ensures.first ∙ c.in-Some.is) c.take_waiting.ensures.rest
    (ap (λ (x : StrictView). x.devices) same ∙ ap (λ (x : StrictView). x.devices) free)
    (ap (λ (x : StrictView). x.held) same ∙ ap (λ (x : StrictView). x.held) free)
    c.take_waiting.ensures.requests c.take_waiting.ensures.handle
    (sym c.in-Ok-End.field-0-is ∙ c.in-Ok-End.ensures.verdict
    ∙ ap (λ (x : StrictView). verdict_at (handle_in c.take_waiting.new.connection.phase) c.in-Some.request x.devices) free)
    c.end.result c.end.ensures
