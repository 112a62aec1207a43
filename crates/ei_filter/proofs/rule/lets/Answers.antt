use Rattle.std.proofs.Common.{true, false, sym, ◌∙◌}
use Rattle.ei_replay.specs.Asked.{asked_of}
use Rattle.ei_filter.proofs.Lets.{one, at_end}
use Rattle.ei_filter.proofs.rule.lets.Goals as goal

pub returns-then-refuses : goal.returns-then-refuses
returns-then-refuses g c =
    sym (c.loop-rule.invariant ∙ one _ _ (asked_of c.args.request.now) c.args.rules.now c.loop-rule.rule-index c.rule-item.result true c.loop-rule-test.true c.rule-item.is (sym c.refuses.ensures ∙ c.if-refuses.true))

pub loop-rule-preserved : goal.loop-rule-preserved
loop-rule-preserved g c = c.loop-rule.invariant ∙ one _ _ (asked_of c.args.request.now) c.args.rules.now c.loop-rule.rule-index c.rule-item.result false c.loop-rule-test.true c.rule-item.is (sym c.refuses.ensures ∙ c.if-refuses.false)

pub returns : goal.returns
returns g c = sym (c.loop-rule.invariant ∙ at_end _ _ (asked_of c.args.request.now) c.args.rules.now c.loop-rule.rule-index c.loop-rule-test.false)
