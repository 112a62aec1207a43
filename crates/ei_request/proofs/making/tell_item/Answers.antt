use Rattle.std.proofs.Common.{[], ◌∷◌, refl, sym, ap, subst, ◌∙◌, arith}
use Rattle.ei_spec.specs.declared.interface.KnownInterface.TheVariants as known
use Rattle.ei_spec.specs.Value.{Word, Letters}
use Rattle.ei_backend.specs.Endpoint.{endpoint_of}
use Rattle.ei_request.specs.Costs.{Fits, Spends, item_cost}
use Rattle.ei_request.specs.Making.{object_of, tells_item}
use Rattle.ei_request.specs.declared.making.DeviceSetup.{DeviceSetup}
use Rattle.ei_request.specs.declared.making.DeviceSetup.TheVariants as setup
use Rattle.ei_request.proofs.ItemsInTurn.{told_plain, short_text}
use Rattle.ei_request.proofs.Rooms.{ok_at, text_size}
use Rattle.ei_request.proofs.Spending.{spends_sent}
use Rattle.ei_request.proofs.Unfailing.{never, never_any, has_room}
use Rattle.ei_request.proofs.making.tell_item.Goals as goal

pub unwrap-requires : goal.unwrap-requires
unwrap-requires c =
    let sends = c.dimensions.ensures.sends in
    let fits = subst (λ (i : DeviceSetup). Fits (item_cost i) c.args.ctx.now) c.in-Dimensions.is c.requires.fits in
    never _ sends.only (sends.room (has_room (item_cost (setup.Dimensions c.in-Dimensions.width c.in-Dimensions.height)) _ c.args.device.now.id 3 (Word c.in-Dimensions.width ∷ Word c.in-Dimensions.height ∷ []) fits (omega arith) (omega arith)))

pub returns-in-Dimensions-clause-ok : goal.returns-in-Dimensions-clause-ok
returns-in-Dimensions-clause-ok c =
    told_plain c.args.ctx.now c.dimensions.new.ctx c.args.device.now.id (object_of known.Keyboard c.args.objects.now) c.args.item.now (setup.Dimensions c.in-Dimensions.width c.in-Dimensions.height) 3 (Word c.in-Dimensions.width ∷ Word c.in-Dimensions.height ∷ []) c.in-Dimensions.is refl refl refl
    (ok_at c.dimensions.result c.unwrap.result c.unwrap.ensures c.dimensions.ensures.sends.ok)

pub returns-in-Dimensions-clause-spends : goal.returns-in-Dimensions-clause-spends
returns-in-Dimensions-clause-spends c =
    subst (λ (i : DeviceSetup). Spends (item_cost i) c.args.ctx.now c.dimensions.new.ctx) (sym c.in-Dimensions.is)
    (spends_sent (item_cost (setup.Dimensions c.in-Dimensions.width c.in-Dimensions.height)) _ _ c.args.device.now.id 3 (Word c.in-Dimensions.width ∷ Word c.in-Dimensions.height ∷ []) (ok_at c.dimensions.result c.unwrap.result c.unwrap.ensures c.dimensions.ensures.sends.ok) (omega arith) (omega arith))

pub unwrap-requires-in-RegionMappingId : goal.unwrap-requires-in-RegionMappingId
unwrap-requires-in-RegionMappingId c =
    let sends = c.region_mapping_id.ensures.sends in
    let fits = subst (λ (i : DeviceSetup). Fits (item_cost i) c.args.ctx.now) c.in-RegionMappingId.is c.requires.fits in
    let short = short_text c.args.device.now.id c.args.item.now c.in-RegionMappingId.id c.in-RegionMappingId.is c.requires.short in
    never_any _ (λ e. omega (arith, sends.long.0 e, short)) sends.not_exhausted (sends.room (has_room (item_cost (setup.RegionMappingId c.in-RegionMappingId.id)) _ c.args.device.now.id 12 (Letters c.in-RegionMappingId.id.now ∷ []) fits (omega (arith, text_size c.args.device.now.id 12 c.in-RegionMappingId.id.now)) (omega arith)))

pub returns-in-RegionMappingId-clause-ok : goal.returns-in-RegionMappingId-clause-ok
returns-in-RegionMappingId-clause-ok c =
    told_plain c.args.ctx.now c.region_mapping_id.new.ctx c.args.device.now.id (object_of known.Keyboard c.args.objects.now) c.args.item.now (setup.RegionMappingId c.in-RegionMappingId.id) 12 (Letters c.in-RegionMappingId.id.now ∷ []) c.in-RegionMappingId.is refl refl refl
    (ok_at c.region_mapping_id.result c.unwrap-in-RegionMappingId.result c.unwrap-in-RegionMappingId.ensures c.region_mapping_id.ensures.sends.ok)

pub returns-in-RegionMappingId-clause-spends : goal.returns-in-RegionMappingId-clause-spends
returns-in-RegionMappingId-clause-spends c =
    subst (λ (i : DeviceSetup). Spends (item_cost i) c.args.ctx.now c.region_mapping_id.new.ctx) (sym c.in-RegionMappingId.is)
    (spends_sent (item_cost (setup.RegionMappingId c.in-RegionMappingId.id)) _ _ c.args.device.now.id 12 (Letters c.in-RegionMappingId.id.now ∷ []) (ok_at c.region_mapping_id.result c.unwrap-in-RegionMappingId.result c.unwrap-in-RegionMappingId.ensures c.region_mapping_id.ensures.sends.ok) (omega (arith, text_size c.args.device.now.id 12 c.in-RegionMappingId.id.now)) (omega arith))

pub unwrap-requires-in-Region : goal.unwrap-requires-in-Region
unwrap-requires-in-Region c =
    let sends = c.region.ensures.sends in
    let fits = subst (λ (i : DeviceSetup). Fits (item_cost i) c.args.ctx.now) c.in-Region.is c.requires.fits in
    never _ sends.only (sends.room (has_room (item_cost (setup.Region c.in-Region.offset_x c.in-Region.offset_y c.in-Region.width c.in-Region.hight c.in-Region.scale)) _ c.args.device.now.id 4 (Word c.in-Region.offset_x ∷ Word c.in-Region.offset_y ∷ Word c.in-Region.width ∷ Word c.in-Region.hight ∷ Word c.in-Region.scale.0 ∷ []) fits (omega arith) (omega arith)))

pub returns-in-Region-clause-ok : goal.returns-in-Region-clause-ok
returns-in-Region-clause-ok c =
    told_plain c.args.ctx.now c.region.new.ctx c.args.device.now.id (object_of known.Keyboard c.args.objects.now) c.args.item.now (setup.Region c.in-Region.offset_x c.in-Region.offset_y c.in-Region.width c.in-Region.hight c.in-Region.scale) 4 (Word c.in-Region.offset_x ∷ Word c.in-Region.offset_y ∷ Word c.in-Region.width ∷ Word c.in-Region.hight ∷ Word c.in-Region.scale.0 ∷ []) c.in-Region.is refl refl refl
    (ok_at c.region.result c.unwrap-in-Region.result c.unwrap-in-Region.ensures c.region.ensures.sends.ok)

pub returns-in-Region-clause-spends : goal.returns-in-Region-clause-spends
returns-in-Region-clause-spends c =
    subst (λ (i : DeviceSetup). Spends (item_cost i) c.args.ctx.now c.region.new.ctx) (sym c.in-Region.is)
    (spends_sent (item_cost (setup.Region c.in-Region.offset_x c.in-Region.offset_y c.in-Region.width c.in-Region.hight c.in-Region.scale)) _ _ c.args.device.now.id 4 (Word c.in-Region.offset_x ∷ Word c.in-Region.offset_y ∷ Word c.in-Region.width ∷ Word c.in-Region.hight ∷ Word c.in-Region.scale.0 ∷ []) (ok_at c.region.result c.unwrap-in-Region.result c.unwrap-in-Region.ensures c.region.ensures.sends.ok) (omega arith) (omega arith))

pub tell_keymap-requires-clause-fits : goal.tell_keymap-requires-clause-fits
tell_keymap-requires-clause-fits c = subst (λ (i : DeviceSetup). Fits (item_cost i) c.args.ctx.now) c.in-Keymap.is c.requires.fits

pub returns-in-Keymap-clause-ok : goal.returns-in-Keymap-clause-ok
returns-in-Keymap-clause-ok c =
    c.tell_keymap.ensures.ok c.args.device.now.id ∙ ap (tells_item (endpoint_of c.args.ctx.now) c.args.device.now.id (object_of known.Keyboard c.args.objects.now)) (sym c.in-Keymap.is)

pub returns-in-Keymap-clause-spends : goal.returns-in-Keymap-clause-spends
returns-in-Keymap-clause-spends c = subst (λ (i : DeviceSetup). Spends (item_cost i) c.args.ctx.now c.tell_keymap.new.ctx) (sym c.in-Keymap.is) c.tell_keymap.ensures.spends
