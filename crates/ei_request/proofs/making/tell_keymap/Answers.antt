use Rattle.std.proofs.Common.{◌≡◌, [], ◌∷◌, Option, Some, sym, ap, ◌∙◌, arith}
use Rattle.std.specs.Option.{option_copied}
use Rattle.ei_spec.specs.declared.interface.KnownInterface.TheVariants as known
use Rattle.ei_spec.specs.Interface.{ObjectView}
use Rattle.ei_spec.specs.Value.{Word, Fd}
use Rattle.ei_types.specs.Enums.{keymap_type_number}
use Rattle.ei_backend.specs.Endpoint.{endpoint_of}
use Rattle.ei_request.specs.Costs.{item_cost}
use Rattle.ei_request.specs.Making.{object_of, tells_item}
use Rattle.ei_request.specs.declared.making.DeviceSetup.TheVariants as setup
use Rattle.ei_request.proofs.ItemsInTurn.{told_keymap}
use Rattle.ei_request.proofs.Rooms.{ok_at}
use Rattle.ei_request.proofs.Spending.{spends_sent}
use Rattle.ei_request.proofs.making.tell_keymap.Goals as goal

pub returns-clause-ok : goal.returns-clause-ok
returns-clause-ok c =
    let is : object_of known.Keyboard c.args.objects.now ≡ Some c.new_unchecked-keyboard.result =
    sym c.find_interface.ensures.object ∙ ap option_copied c.unwrap-object.ensures ∙ ap Some (sym (c.new_unchecked-keyboard.ensures ∙ c.copy.ensures)) in
    λ device.
    told_keymap c.args.ctx.now c.keymap.new.ctx device c.new_unchecked-keyboard.result c.args.keymap_type c.args.size c.args.handle (ok_at c.keymap.result c.unwrap.result c.unwrap.ensures c.keymap.ensures.sends.ok)
    ∙ ap (λ (o : Option ObjectView). tells_item (endpoint_of c.args.ctx.now) device o (setup.Keymap c.args.keymap_type c.args.size c.args.handle)) (sym is)

pub returns-clause-spends : goal.returns-clause-spends
returns-clause-spends c =
    spends_sent (item_cost (setup.Keymap c.args.keymap_type c.args.size c.args.handle)) _ _ c.new_unchecked-keyboard.result.id 1
    (Word (keymap_type_number c.args.keymap_type) ∷ Word c.args.size ∷ Fd c.args.handle ∷ [])
    (ok_at c.keymap.result c.unwrap.result c.unwrap.ensures c.keymap.ensures.sends.ok) (omega arith) (omega arith)
