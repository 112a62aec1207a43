use Rattle.std.proofs.Common.{sym, ◌∙◌, nat_eq}
use Rattle.ei_request.proofs.FirstOnes.{removed_here, none_here, unremoved}
use Rattle.ei_replay.proofs.made.lift.Goals as goal

pub returns-in-Some : goal.returns-in-Some
returns-in-Some c = c.remove.ensures.items ∙ removed_here (nat_eq c.args.touch) c.args.touches.now.items c.deref.result.now c.touch_place.result c.in-Some.at c.remove.result c.deref.ensures.value c.touch_place.ensures c.in-Some.is

pub returns-in_default : goal.returns-in_default
returns-in_default c = sym (unremoved (nat_eq c.args.touch) _ (none_here (nat_eq c.args.touch) c.args.touches.now.items c.deref.result.now c.touch_place.result c.deref.ensures.value c.touch_place.ensures c.in_default.is))
