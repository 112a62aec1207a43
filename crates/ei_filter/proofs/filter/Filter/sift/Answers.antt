use Rattle.std.proofs.Common.{[], ◌∷◌, map, ap}
use Rattle.std.proofs.lemmas.List.{nil_from_length}
use Rattle.std.proofs.lemmas.Option.{MatchOption-at_none}
use Rattle.ei_replay.specs.Asked.{asked_of}
use Rattle.ei_filter.specs.Steps.{handed}
use Rattle.ei_filter.proofs.Sifting.{at_first, goes_on, ends, in_part}
use Rattle.ei_filter.proofs.Told.{on_err}
use Rattle.ei_filter.proofs.filter.Filter.sift.Goals as goal

pub loop-item-init : goal.loop-item-init
loop-item-init g c = ([], at_first asked_of _ _ (map asked_of c.args.items.now) c.args.out.now.items c.new-past.result c.new-past.ensures.group c.new-past.ensures.begun)

pub loop-item-preserved : goal.loop-item-preserved
loop-item-preserved g c = (
  asked_of c.in-Some.item.now ∷ c.loop-item.invariant.0,
  goes_on asked_of _ _ (map asked_of c.args.items.now) c.args.out.now.items (asked_of c.in-Some.item.now) c.loop-item.invariant.0 (map asked_of c.loop-item.later.now) (map asked_of c.in-Some.rest.now)
      c.loop-item.past c.kept.new.past c.loop-item.out.items c.hand_out.new.out.items (handed c.in_ok-kept.kept) (ap (map asked_of) c.in-Some.ensures.cases.0) c.loop-item.invariant.1 c.in_ok-hand_out.ensures.ok c.in_ok-kept.ensures,
)

pub returns-in_err-kept-clause-part : goal.returns-in_err-kept-clause-part
returns-in_err-kept-clause-part g c =
    on_err c.from_residual.result
    (in_part asked_of _ _ (map asked_of c.args.items.now) c.args.out.now.items c.loop-item.invariant.0 (map asked_of c.loop-item.later.now) c.loop-item.past c.loop-item.out.items c.loop-item.invariant.1)

pub returns-in_err-hand_out-clause-part : goal.returns-in_err-hand_out-clause-part
returns-in_err-hand_out-clause-part g c =
    on_err c.from_residual-in_err-hand_out.result
    (in_part asked_of _ _ (map asked_of c.args.items.now) c.args.out.now.items c.loop-item.invariant.0 (map asked_of c.loop-item.later.now) c.loop-item.past c.hand_out.new.out.items
    (rw c.in_err-hand_out.ensures.err c.loop-item.invariant.1))

pub returns-clause-ok : goal.returns-clause-ok
returns-clause-ok g c =
    let none = nil_from_length c.loop-item.later.now (MatchOption-at_none _ _ c.in_default.is c.split_first.ensures.cases) in
    ends asked_of _ _ (map asked_of c.args.items.now) c.args.out.now.items c.loop-item.invariant.0 (map asked_of c.loop-item.later.now) c.loop-item.past c.loop-item.out.items (ap (map asked_of) none) c.loop-item.invariant.1
