use Rattle.std.proofs.Common.{List, ℕ, ◌∷◌, ◌∙◌, map, sym, ap, subst, take}
use Rattle.ei_keyed.specs.Keyed.{keyed, without_key}
use Rattle.ei_request.specs.DeviceTable.{Forgets}
use Rattle.ei_request.proofs.DeviceIds.{forgets_more, ids_more}
use Rattle.ei_request.proofs.held.HeldDevice.forget_ids.Goals as goal

pub loop-object-preserved : goal.loop-object-preserved
loop-object-preserved c =
    let own = c.args.self.now.device.proxy.id in
    let os = c.deref-object-items.result.now in
    let k = c.loop-object.object-index in
    let o = c.object-item.result in
    let told = c.forget_id-in-loop-object.ensures c.if-not-forget_id-2.false in
    let id = c.id-in-loop-object.ensures in
    subst (λ (ids : List ℕ). Forgets c.args.number (own ∷ ids) c.args.ids.now.items c.forget_id-in-loop-object.new.ids.items) (sym (ids_more os k o c.loop-object-test.true c.object-item.is))
    (forgets_more c.args.number (own ∷ map (λ o. o.id) (take k os)) o.id c.args.ids.now.items c.loop-object.ids.items c.forget_id-in-loop-object.new.ids.items c.loop-object.invariant
    (ap (λ i. keyed i c.loop-object.ids.items) (sym id) ∙ told.0) (told.1 ∙ ap (λ i. without_key i c.loop-object.ids.items) id))
