use Rattle.std.proofs.Common.{[], arith}
use Rattle.ei_spec.specs.declared.interface.KnownInterface.TheVariants as known
use Rattle.ei_request.specs.Costs.{Fits, Spends, items_cost, done_cost}
use Rattle.ei_request.specs.Making.{object_of}
use Rattle.ei_request.proofs.ItemsInTurn.{ended}
use Rattle.ei_request.proofs.Rooms.{ok_at}
use Rattle.ei_request.proofs.Spending.{fits_within, fits_after, spends_both, spends_sent}
use Rattle.ei_request.proofs.Unfailing.{never, has_room}
use Rattle.ei_request.proofs.making.end.Goals as goal

pub tell_items-requires-clause-fits : goal.tell_items-requires-clause-fits
tell_items-requires-clause-fits c = fits_within _ (items_cost c.args.setup.now) _ c.requires.fits (omega arith) (omega arith) (omega arith)

pub unwrap-requires : goal.unwrap-requires
unwrap-requires c =
    let fits : Fits done_cost c.tell_items.new.ctx = fits_after _ (items_cost c.args.setup.now) _ _ _ c.requires.fits c.tell_items.ensures.spends (omega arith) (omega arith) (omega arith) in
    let sends = c.done.ensures.sends in
    never _ sends.only (sends.room (has_room done_cost _ c.args.device.now.id 6 [] fits (omega arith) (omega arith)))

pub returns-clause-ok : goal.returns-clause-ok
returns-clause-ok c =
    ended c.args.ctx.now c.tell_items.new.ctx c.done.new.ctx c.args.device.now.id (object_of known.Keyboard c.args.objects.now) c.args.setup.now c.tell_items.ensures.ok
    (ok_at c.done.result c.unwrap.result c.unwrap.ensures c.done.ensures.sends.ok)

pub returns-clause-spends : goal.returns-clause-spends
returns-clause-spends c =
    let done : Spends done_cost c.tell_items.new.ctx c.done.new.ctx =
    spends_sent done_cost _ _ c.args.device.now.id 6 [] (ok_at c.done.result c.unwrap.result c.unwrap.ensures c.done.ensures.sends.ok) (omega arith) (omega arith) in
    spends_both _ _ _ _ _ _ c.tell_items.ensures.spends done (omega arith) (omega arith) (omega arith)
