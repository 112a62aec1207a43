use Rattle.std.proofs.Common.{map, true, false, sym, ap, ◌∙◌}
use Rattle.std.proofs.lemmas.List.{nil_from_length}
use Rattle.std.proofs.lemmas.Option.{MatchOption-at_none}
use Rattle.ei_replay.specs.Asked.{asked_of}
use Rattle.ei_filter.proofs.Ahead.{item_ahead, end_ahead}
use Rattle.ei_filter.proofs.kind.frame_ahead.Goals as goal

pub returns-then-not-is_input_of : goal.returns-then-not-is_input_of
returns-then-not-is_input_of c =
    c.frame_time.ensures
    ∙ sym (item_ahead c.args.device (map asked_of c.args.items.now) (map asked_of c.loop-item.later.now) (map asked_of c.in-Some.rest.now) (asked_of c.in-Some.item.now) c.kind_of-kind.result false
    (ap (map asked_of) c.in-Some.ensures.cases.0) c.kind_of-kind.ensures (sym c.is_input_of.ensures ∙ c.if-not-is_input_of.true) c.loop-item.invariant)

pub loop-item-preserved : goal.loop-item-preserved
loop-item-preserved c =
    item_ahead c.args.device (map asked_of c.args.items.now) (map asked_of c.loop-item.later.now) (map asked_of c.in-Some.rest.now) (asked_of c.in-Some.item.now) c.kind_of-kind.result true
    (ap (map asked_of) c.in-Some.ensures.cases.0) c.kind_of-kind.ensures (sym c.is_input_of.ensures ∙ c.if-not-is_input_of.false) c.loop-item.invariant

pub returns : goal.returns
returns c =
    let none = nil_from_length c.loop-item.later.now (MatchOption-at_none _ _ c.in_default.is c.split_first.ensures.cases) in
    sym (end_ahead c.args.device (map asked_of c.args.items.now) (map asked_of c.loop-item.later.now) (ap (map asked_of) none) c.loop-item.invariant)
