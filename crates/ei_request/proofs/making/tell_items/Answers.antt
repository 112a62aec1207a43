use Rattle.std.proofs.Common.{◌<◌, take, get_or, length, ap, ◌∙◌, arith}
use Rattle.std.proofs.lemmas.List.{take_all, get_or_default}
use Rattle.std.proofs.lemmas.List.Sums.{sum_by_more, sum_by_more_le}
use Rattle.ei_spec.specs.declared.interface.KnownInterface.TheVariants as known
use Rattle.ei_backend.specs.Endpoint.{endpoint_of}
use Rattle.ei_request.specs.Costs.{Cost}
use Rattle.ei_request.specs.Making.{object_of, setup_room, item_room, is_long_item, tells_items}
use Rattle.ei_request.specs.declared.making.DeviceSetup.{DeviceSetup}
use Rattle.ei_request.specs.declared.making.DeviceSetup.TheVariants as setup
use Rattle.ei_request.proofs.ItemsInTurn.{told_none, told_more, none_at}
use Rattle.ei_request.proofs.Spending.{fits_after, spends_both, spends_nothing, spends_within}
use Rattle.ei_request.proofs.making.tell_items.Goals as goal

pub loop-item-init : goal.loop-item-init
loop-item-init c = record {
  done = told_none (endpoint_of c.args.ctx.now) c.args.device.now.id (object_of known.Keyboard c.args.objects.now);
  spends = spends_nothing _ _;
}

pub loop-item-preserved : goal.loop-item-preserved
loop-item-preserved c =
    let inv = c.loop-item.invariant in
    let items = c.args.setup.now in
    let i = c.loop-item.item-index in
    let lt : i < length items = c.loop-item-test.true in
    let item : DeviceSetup = get_or items i (setup.Dimensions 0 0) in
    let so_far : Cost = record { bytes = setup_room (take i items); handles = i; objects = 0 } in
    record {
      done = told_more (endpoint_of c.args.ctx.now) (endpoint_of c.loop-item.ctx) (endpoint_of c.tell_item.new.ctx) c.args.device.now.id (object_of known.Keyboard c.args.objects.now) items i (setup.Dimensions 0 0) lt inv.done c.tell_item.ensures.ok;
      spends = spends_both _ so_far _ _ _ _ inv.spends c.tell_item.ensures.spends (omega (arith, sum_by_more item_room items i (setup.Dimensions 0 0) lt)) (omega arith) (omega arith);
    }

pub tell_item-requires-clause-keyboard : goal.tell_item-requires-clause-keyboard
tell_item-requires-clause-keyboard c = λ needs. c.requires.keyboard (c.loop-item.item-index, get_or c.args.setup.now c.loop-item.item-index (setup.Dimensions 0 0), c.loop-item-test.true, get_or_default c.args.setup.now c.loop-item.item-index _ _ c.loop-item-test.true, needs)

pub tell_item-requires-clause-short : goal.tell_item-requires-clause-short
tell_item-requires-clause-short c = λ device. none_at (is_long_item device) c.args.setup.now c.loop-item.item-index (setup.Dimensions 0 0) c.loop-item-test.true (c.requires.short device)

pub tell_item-requires-clause-fits : goal.tell_item-requires-clause-fits
tell_item-requires-clause-fits c =
    let items = c.args.setup.now in
    let i = c.loop-item.item-index in
    let lt : i < length items = c.loop-item-test.true in
    let so_far : Cost = record { bytes = setup_room (take i items); handles = i; objects = 0 } in
    fits_after _ so_far _ _ _ c.requires.fits c.loop-item.invariant.spends (omega (arith, sum_by_more_le item_room items i (setup.Dimensions 0 0) lt)) (omega arith) (omega arith)

pub returns-clause-ok : goal.returns-clause-ok
returns-clause-ok c =
    c.loop-item.invariant.done
    ∙ ap (tells_items (endpoint_of c.args.ctx.now) c.args.device.now.id (object_of known.Keyboard c.args.objects.now)) (take_all c.loop-item.item-index c.args.setup.now c.loop-item-test.false)

pub returns-clause-spends : goal.returns-clause-spends
returns-clause-spends c =
    let items = c.args.setup.now in
    let i = c.loop-item.item-index in
    let so_far : Cost = record { bytes = setup_room (take i items); handles = i; objects = 0 } in
    let whole = ap setup_room (take_all i items c.loop-item-test.false) in
    spends_within _ so_far _ _ c.loop-item.invariant.spends (omega (arith, whole)) (omega (arith, c.loop-item.auto.item-index-end)) (omega arith)
