use Rattle.std.proofs.Common.{sym, ap, ◌∙◌, arith}
use Rattle.ei_types.specs.Capability.{bits_of, capability_list}
use Rattle.ei_handshake.specs.Handshaker.{sends}
use Rattle.ei_handshake.proofs.Sending.{sends-nil, sends_more}
use Rattle.ei_request.specs.Connection.{is_settled}
use Rattle.ei_request.specs.Costs.{times, capability_cost, capabilities_cost}
use Rattle.ei_request.proofs.Offering.{offers_more, offers_whole}
use Rattle.ei_request.proofs.Spending.{fits_after, spends_both, spends_nothing, spends_within}
use Rattle.ei_request.proofs.seats.offer.Goals as goal

pub loop-one-init : goal.loop-one-init
loop-one-init c = record { offered = sym (sends-nil _); spends = spends_nothing _ _ }

pub loop-one-preserved : goal.loop-one-preserved
loop-one-preserved c =
    let inv = c.loop-one.invariant in
    record {
      offered = c.offer_if_settled.ensures.sends ∙ sends_more _ _ _ _ inv.offered
          ∙ ap (sends c.args.ctx.now) (sym (offers_more c.args.seat.now.id (bits_of c.args.capabilities) (is_settled c.args.versions.now) capability_list c.loop-one.one-index _ (omega (arith, c.loop-one-test.true))));
      spends = spends_both _ (times c.loop-one.one-index capability_cost) capability_cost _ _ _ inv.spends c.offer_if_settled.ensures.spends (omega arith) (omega arith) (omega arith);
    }

pub offer_if_settled-requires : goal.offer_if_settled-requires
offer_if_settled-requires c =
    record { fits = fits_after capabilities_cost (times c.loop-one.one-index capability_cost) _ _ _ c.requires.fits c.loop-one.invariant.spends (omega (arith, c.loop-one-test.true)) (omega arith) (omega arith) }

pub returns-clause-sends : goal.returns-clause-sends
returns-clause-sends c =
    c.loop-one.invariant.offered
    ∙ ap (sends c.args.ctx.now) (offers_whole c.args.seat.now.id (bits_of c.args.capabilities) (is_settled c.args.versions.now) c.loop-one.one-index c.loop-one-test.false)

pub returns-clause-spends : goal.returns-clause-spends
returns-clause-spends c = spends_within _ (times c.loop-one.one-index capability_cost) _ _ c.loop-one.invariant.spends (omega arith) (omega arith) (omega arith)
