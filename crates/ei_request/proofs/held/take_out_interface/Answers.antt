use Rattle.std.proofs.Common.{sym, ◌∙◌, nat_eq}
use Rattle.ei_request.proofs.FirstOnes.{removed_here, none_here, unremoved}
use Rattle.ei_request.proofs.held.take_out_interface.Goals as goal

pub returns-in-Some : goal.returns-in-Some
returns-in-Some c = c.remove.ensures.items ∙ removed_here (λ o. nat_eq o.id c.args.id) c.args.objects.now.items c.deref.result.now c.interface_place.result c.in-Some.at c.remove.result c.deref.ensures.value c.interface_place.ensures c.in-Some.is

pub returns-in_default : goal.returns-in_default
returns-in_default c = sym (unremoved (λ o. nat_eq o.id c.args.id) _ (none_here (λ o. nat_eq o.id c.args.id) c.args.objects.now.items c.deref.result.now c.interface_place.result c.deref.ensures.value c.interface_place.ensures c.in_default.is))
