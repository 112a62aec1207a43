use Rattle.std.proofs.Common.{refl, sym, ◌∙◌, nat_eq}
use Rattle.ei_request.proofs.FirstOnes.{removed_here, none_here, unremoved, any_none, any_at}
use Rattle.ei_request.proofs.held.lift.Goals as goal

pub returns-in_default-clause-ok : goal.returns-in_default-clause-ok
returns-in_default-clause-ok c = sym (unremoved (nat_eq c.args.touch_id) _ (none_here (nat_eq c.args.touch_id) c.args.touches.now.items c.deref.result.now c.touch_place.result c.deref.ensures.value c.touch_place.ensures c.in_default.is))

pub returns-in_default-clause-waits : goal.returns-in_default-clause-waits
returns-in_default-clause-waits c = rw (any_none (nat_eq c.args.touch_id) _ (none_here (nat_eq c.args.touch_id) c.args.touches.now.items c.deref.result.now c.touch_place.result c.deref.ensures.value c.touch_place.ensures c.in_default.is)) refl

pub returns-clause-ok : goal.returns-clause-ok
returns-clause-ok c = c.remove.ensures.items ∙ removed_here (nat_eq c.args.touch_id) c.args.touches.now.items c.deref.result.now c.touch_place.result c.in-Some.at c.remove.result c.deref.ensures.value c.touch_place.ensures c.in-Some.is

pub returns-clause-waits : goal.returns-clause-waits
returns-clause-waits c = rw (any_at (nat_eq c.args.touch_id) c.args.touches.now.items c.deref.result.now c.touch_place.result c.in-Some.at 0 c.deref.ensures.value c.touch_place.ensures c.in-Some.is) c.in_ok-push_input.ensures.ok
