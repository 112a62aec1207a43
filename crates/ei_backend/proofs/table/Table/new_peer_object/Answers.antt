use Rattle.std.proofs.Common.{◌++◌, ◌∷◌, [], ap, sym, ◌∙◌, arith}
use Rattle.ei_spec.specs.Interface.{ObjectView}
use Rattle.ei_backend.specs.Table.{peer_end, objects_in}
use Rattle.ei_backend.proofs.GivenOnce.{accepted_as_is}
use Rattle.ei_backend.proofs.Objects.{more_objects}
use Rattle.ei_backend.proofs.OwnAndPeer.{peer_given}
use Rattle.ei_backend.proofs.Kept.{peer_more}
use Rattle.ei_backend.proofs.table.Table.new_peer_object.Goals as goal

pub returns-clause-read : goal.returns-clause-read
returns-clause-read c =
    let theirs = c.self.inside.peer.items in
    let more = c.in_ok-push.ensures.ok ∙ ap (λ (o : ObjectView). theirs ++ (c.args.id, o) ∷ []) c.in_ok-clone.ensures.cases in
    rw (← c.self.view_is) (peer_given _ _ _ _ _ _ _ c.self.invariant.stands c.args.id c.peer_end.result _ _ c.new-object.result _ c.new-object.ensures (ap objects_in more ∙ more_objects theirs c.args.id c.new-object.result)
    (omega arith) (omega arith) (c.peer_end.ensures ∙ ap peer_end (sym c.self.view_is)))

pub returns-clause-announced : goal.returns-clause-announced
returns-clause-announced c = accepted_as_is _ _ _ _ _ _ (returns-clause-read c)

pub invariant_of-self-2 : goal.invariant_of-self-2
invariant_of-self-2 c =
    let theirs = c.self.inside.peer.items in
    let more = c.in_ok-push.ensures.ok ∙ ap (λ (o : ObjectView). theirs ++ (c.args.id, o) ∷ []) c.in_ok-clone.ensures.cases in
    peer_more _ _ _ _ _ _ _ c.self.invariant c.args.id c.new-object.result _ (ap (λ (o : ObjectView). o.id) c.new-object.ensures) more (omega arith) (omega (arith, ap peer_end c.self.view_is))
