use Rattle.std.proofs.Common.{◌≡◌, map, slice_get, Some, subst, sym, ◌∙◌, arith}
use Rattle.ei_serve.specs.Standing.{setup_of}
use Rattle.ei_replay.specs.Asked.{asked_of}
use Rattle.ei_replay.specs.Steps.{step_of, IsNamed}
use Rattle.ei_replay.proofs.Checking.{seen_at, all_seen, stops, one_more, at_end}
use Rattle.ei_replay.proofs.record_check.check.Goals as goal

pub returns-then-is_wrong : goal.returns-then-is_wrong
returns-then-is_wrong c =
    let items = c.args.items.now in
    let item = asked_of c.index-items-at.result in
    let here : slice_get (map asked_of items) c.loop-at.at ≡ Some item = seen_at asked_of items c.loop-at.at c.index-items-at.result c.loop-at-test.true c.index-items-at.is in
    let named : IsNamed (step_of item) = subst IsNamed c.step_of-step.ensures.value c.step_of-step.ensures.named in
    stops (setup_of c.args.setup.now) (map asked_of items) c.loop-at.at c.loop-at.played c.loop-at.invariant item here named
    (rw (← c.step_of-step.ensures.value, ← c.next_step.ensures) (sym c.is_wrong.ensures ∙ c.if-is_wrong.true))

pub loop-at-preserved : goal.loop-at-preserved
loop-at-preserved c =
    let items = c.args.items.now in
    let item = asked_of c.index-items-at.result in
    let here : slice_get (map asked_of items) c.loop-at.at ≡ Some item = seen_at asked_of items c.loop-at.at c.index-items-at.result c.loop-at-test.true c.index-items-at.is in
    let named : IsNamed (step_of item) = subst IsNamed c.step_of-step.ensures.value c.step_of-step.ensures.named in
    one_more (setup_of c.args.setup.now) (map asked_of items) c.loop-at.at c.loop-at.played c.loop-at.invariant item here named c.take.new.self
    (rw (← c.step_of-step.ensures.value, ← c.next_step.ensures) (sym c.is_wrong.ensures ∙ c.if-is_wrong.false))
    (rw (← c.step_of-step.ensures.value) c.in_ok-take.ensures)

pub returns : goal.returns
returns c =
    let items = c.args.items.now in
    at_end (setup_of c.args.setup.now) (map asked_of items) c.loop-at.at c.loop-at.played c.loop-at.invariant
    (let past = c.loop-at-test.false in omega (arith, all_seen asked_of items, past))
