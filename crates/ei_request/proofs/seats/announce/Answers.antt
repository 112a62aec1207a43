use Rattle.std.proofs.Common.{arith}
use Rattle.std.specs.Option.{option_copied}
use Rattle.ei_request.specs.Costs.{Spends, both, announced_cost, name_cost, capabilities_cost}
use Rattle.ei_request.proofs.Spending.{fits_within, fits_after, spends_both}
use Rattle.ei_request.proofs.seats.announce.Goals as goal

pub begin-seat-requires : goal.begin-seat-requires
begin-seat-requires c = record { fits = fits_within _ announced_cost _ c.requires.fits (omega arith) (omega arith) (omega arith) }

pub tell_name-requires-clause-fits : goal.tell_name-requires-clause-fits
tell_name-requires-clause-fits c = fits_after _ announced_cost _ _ _ c.requires.fits c.begin-seat.ensures.spends (omega arith) (omega arith) (omega arith)

pub offer-requires : goal.offer-requires
offer-requires c =
    let named = both announced_cost (name_cost (option_copied c.args.name)) in
    let told : Spends named c.args.ctx.now c.tell_name.new.ctx = spends_both named _ _ _ _ _ c.begin-seat.ensures.spends c.tell_name.ensures.spends (omega arith) (omega arith) (omega arith) in
    record { fits = fits_after _ named _ _ _ c.requires.fits told (omega arith) (omega arith) (omega arith) }

pub end-requires : goal.end-requires
end-requires c =
    let named = both announced_cost (name_cost (option_copied c.args.name)) in
    let told : Spends named c.args.ctx.now c.tell_name.new.ctx = spends_both named _ _ _ _ _ c.begin-seat.ensures.spends c.tell_name.ensures.spends (omega arith) (omega arith) (omega arith) in
    let offered : Spends (both named capabilities_cost) c.args.ctx.now c.offer.new.ctx = spends_both (both named capabilities_cost) _ _ _ _ _ told c.offer.ensures.spends (omega arith) (omega arith) (omega arith) in
    record { fits = fits_after _ (both named capabilities_cost) _ _ _ c.requires.fits offered (omega arith) (omega arith) (omega arith) }

pub returns-clause-spends : goal.returns-clause-spends
returns-clause-spends c =
    let named = both announced_cost (name_cost (option_copied c.args.name)) in
    let told : Spends named c.args.ctx.now c.tell_name.new.ctx = spends_both named _ _ _ _ _ c.begin-seat.ensures.spends c.tell_name.ensures.spends (omega arith) (omega arith) (omega arith) in
    let offered : Spends (both named capabilities_cost) c.args.ctx.now c.offer.new.ctx = spends_both (both named capabilities_cost) _ _ _ _ _ told c.offer.ensures.spends (omega arith) (omega arith) (omega arith) in
    spends_both _ _ _ _ _ _ offered c.end.ensures.spends (omega arith) (omega arith) (omega arith)
