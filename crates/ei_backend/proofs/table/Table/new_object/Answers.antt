use Rattle.std.proofs.Common.{◌++◌, ◌∷◌, [], ap, ◌∙◌, arith}
use Rattle.ei_spec.specs.Interface.{ObjectView}
use Rattle.ei_backend.specs.Table.{own_end, objects_in}
use Rattle.ei_backend.proofs.Objects.{more_objects}
use Rattle.ei_backend.proofs.OwnAndPeer.{own_given}
use Rattle.ei_backend.proofs.Kept.{own_more}
use Rattle.ei_backend.proofs.table.Table.new_object.Goals as goal

pub returns-clause-ok : goal.returns-clause-ok
returns-clause-ok c =
    let mine = c.self.inside.own.items in
    let more = c.in_ok-push.ensures.ok ∙ ap (λ (o : ObjectView). mine ++ (c.self.inside.next_own, o) ∷ []) c.in_ok-clone.ensures.cases in
    rw (← c.self.view_is) (own_given _ _ _ _ _ _ _ c.self.invariant.stands _ _ c.new-object.result _ c.new-object.ensures (ap objects_in more ∙ more_objects mine c.self.inside.next_own c.new-object.result))

pub invariant_of-self-2 : goal.invariant_of-self-2
invariant_of-self-2 c =
    let mine = c.self.inside.own.items in
    let more = c.in_ok-push.ensures.ok ∙ ap (λ (o : ObjectView). mine ++ (c.self.inside.next_own, o) ∷ []) c.in_ok-clone.ensures.cases in
    own_more _ _ _ _ _ _ _ c.self.invariant c.new-object.result _ _ (ap (λ (o : ObjectView). o.id) c.new-object.ensures) more (omega (arith, ap own_end c.self.view_is)) c.in_ok-push.ensures.room
