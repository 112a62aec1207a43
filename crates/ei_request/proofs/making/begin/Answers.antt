use Rattle.std.proofs.Common.{◌≡◌, [], ◌∷◌, arith}
use Rattle.std.specs.Option.{option_copied}
use Rattle.ei_spec.specs.declared.interface.KnownInterface.TheVariants as known
use Rattle.ei_spec.specs.Interface.{Known, ObjectView}
use Rattle.ei_spec.specs.Value.{Word, Long}
use Rattle.ei_types.specs.Enums.{device_type_number}
use Rattle.ei_backend.specs.Table.{own}
use Rattle.ei_request.specs.Costs.{Fits, Spends, both, announced_cost, name_cost, type_cost}
use Rattle.ei_request.proofs.ItemsInTurn.{begun}
use Rattle.ei_request.proofs.Rooms.{ok_at, held_at}
use Rattle.ei_request.proofs.Spending.{fits_after, spends_both, spends_new, spends_sent}
use Rattle.ei_request.proofs.Unfailing.{never, has_room}
use Rattle.ei_request.proofs.making.begin.Goals as goal

pub tell_name-requires-clause-fits : goal.tell_name-requires-clause-fits
tell_name-requires-clause-fits c =
    let announced : Spends announced_cost c.args.ctx.now c.device.new.ctx =
    spends_new announced_cost _ _ c.args.seat.now.id 4 (Long c.args.ctx.now.table.next_own ∷ Word c.args.version ∷ []) _ _
    (ok_at c.device.result c.unwrap-device.result c.unwrap-device.ensures c.device.ensures.sends.ok) (omega arith) (omega arith) (omega arith) in
    fits_after _ announced_cost _ _ _ c.requires.fits announced (omega arith) (omega arith) (omega arith)

pub unwrap-requires : goal.unwrap-requires
unwrap-requires c =
    let announced : Spends announced_cost c.args.ctx.now c.device.new.ctx =
    spends_new announced_cost _ _ c.args.seat.now.id 4 (Long c.args.ctx.now.table.next_own ∷ Word c.args.version ∷ []) _ _
    (ok_at c.device.result c.unwrap-device.result c.unwrap-device.ensures c.device.ensures.sends.ok) (omega arith) (omega arith) (omega arith) in
    let named = both announced_cost (name_cost (option_copied c.args.name)) in
    let told : Spends named c.args.ctx.now c.tell_name.new.ctx = spends_both named _ _ _ _ _ announced c.tell_name.ensures.spends (omega arith) (omega arith) (omega arith) in
    let fits : Fits type_cost c.tell_name.new.ctx = fits_after _ named _ _ _ c.requires.fits told (omega arith) (omega arith) (omega arith) in
    let sends = c.device_type.ensures.sends in
    never _ sends.only (sends.room (has_room type_cost _ c.unwrap-device.result.id 2 (Word (device_type_number c.args.device_type) ∷ []) fits (omega arith) (omega arith)))

pub returns-clause-device : goal.returns-clause-device
returns-clause-device c =
    held_at (λ (o : ObjectView). o ≡ own c.args.ctx.now.table (Known known.Device) c.args.version) c.device.result c.unwrap-device.result c.unwrap-device.ensures c.device.ensures.sends.object

pub returns-clause-ok : goal.returns-clause-ok
returns-clause-ok c =
    let device : c.unwrap-device.result ≡ own c.args.ctx.now.table (Known known.Device) c.args.version =
    held_at (λ (o : ObjectView). o ≡ own c.args.ctx.now.table (Known known.Device) c.args.version) c.device.result c.unwrap-device.result c.unwrap-device.ensures c.device.ensures.sends.object in
    begun c.args.ctx.now c.device.new.ctx c.tell_name.new.ctx c.device_type.new.ctx c.args.seat.now.id c.args.version (option_copied c.args.name) c.args.device_type c.unwrap-device.result device
    (ok_at c.device.result c.unwrap-device.result c.unwrap-device.ensures c.device.ensures.sends.ok) c.tell_name.ensures.ok
    (ok_at c.device_type.result c.unwrap.result c.unwrap.ensures c.device_type.ensures.sends.ok)

pub returns-clause-spends : goal.returns-clause-spends
returns-clause-spends c =
    let announced : Spends announced_cost c.args.ctx.now c.device.new.ctx =
    spends_new announced_cost _ _ c.args.seat.now.id 4 (Long c.args.ctx.now.table.next_own ∷ Word c.args.version ∷ []) _ _
    (ok_at c.device.result c.unwrap-device.result c.unwrap-device.ensures c.device.ensures.sends.ok) (omega arith) (omega arith) (omega arith) in
    let named = both announced_cost (name_cost (option_copied c.args.name)) in
    let told : Spends named c.args.ctx.now c.tell_name.new.ctx = spends_both named _ _ _ _ _ announced c.tell_name.ensures.spends (omega arith) (omega arith) (omega arith) in
    let typed : Spends type_cost c.tell_name.new.ctx c.device_type.new.ctx =
    spends_sent type_cost _ _ c.unwrap-device.result.id 2 (Word (device_type_number c.args.device_type) ∷ []) (ok_at c.device_type.result c.unwrap.result c.unwrap.ensures c.device_type.ensures.sends.ok) (omega arith) (omega arith) in
    spends_both _ named _ _ _ _ told typed (omega arith) (omega arith) (omega arith)
