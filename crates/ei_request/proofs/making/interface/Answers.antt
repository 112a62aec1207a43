use Rattle.std.proofs.Common.{◌≡◌, [], ◌∷◌, refl, ap, ◌∙◌, arith}
use Rattle.std.proofs.lemmas.List.{append-nil}
use Rattle.ei_spec.specs.Interface.{Interface, ObjectView, name_of, named}
use Rattle.ei_spec.specs.Value.{Word, Long, Letters}
use Rattle.ei_backend.specs.Backend.{sent_new}
use Rattle.ei_backend.specs.Endpoint.{endpoint_of}
use Rattle.ei_backend.specs.Table.{own}
use Rattle.ei_server.proofs.NamedKnown.{named_known}
use Rattle.ei_request.specs.Costs.{interface_cost}
use Rattle.ei_request.proofs.Rooms.{ok_at, held_at, few_interface}
use Rattle.ei_request.proofs.Spending.{spends_new}
use Rattle.ei_request.proofs.making.interface.Goals as goal

pub returns-clause-object : goal.returns-clause-object
returns-clause-object c =
    let t = c.args.ctx.now.table in
    held_at (λ (o : ObjectView). o ≡ own t (named (name_of c.args.one)) c.args.version) c.known_interface.result c.unwrap.result c.unwrap.ensures c.known_interface.ensures.sends.object
    ∙ ap (λ (i : Interface). own t i c.args.version) (named_known c.args.one)

pub returns-clause-ok : goal.returns-clause-ok
returns-clause-ok c =
    let values = Long c.args.ctx.now.table.next_own ∷ Letters (name_of c.args.one) ∷ Word c.args.version ∷ [] in
    ap endpoint_of (ok_at c.known_interface.result c.unwrap.result c.unwrap.ensures c.known_interface.ensures.sends.ok)
    ∙ ap (λ (i : Interface). endpoint_of (sent_new c.args.ctx.now c.args.device.now.id 5 values i c.args.version)) (named_known c.args.one)
    ∙ rw (append-nil c.args.ctx.now.unsent_handles) refl

pub returns-clause-spends : goal.returns-clause-spends
returns-clause-spends c =
    let id = c.args.device.now.id in
    let next = c.args.ctx.now.table.next_own in
    spends_new interface_cost _ _ id 5 (Long next ∷ Letters (name_of c.args.one) ∷ Word c.args.version ∷ []) _ _
    (ok_at c.known_interface.result c.unwrap.result c.unwrap.ensures c.known_interface.ensures.sends.ok) (few_interface c.args.one id next c.args.version) (omega arith) (omega arith)
