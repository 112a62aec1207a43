use Rattle.std.proofs.Common.{ℕ, ◌+◌, ◌%◌, ◌^◌, List, take, get_or, length, sym, ap, ◌∙◌, arith}
use Rattle.std.proofs.lemmas.List.{take_more}
use Rattle.ei_backend.specs.Endpoint.{Endpoint, endpoint_of}
use Rattle.ei_request.specs.Costs.{times, destroyed_cost}
use Rattle.ei_request.specs.Sending.{destroys, destroys_all, serial_after}
use Rattle.ei_request.proofs.GoneInTurn.{destroys_last, serial_last}
use Rattle.ei_request.proofs.Spending.{fits_after, spends_both, spends_within}
use Rattle.ei_request.proofs.sending.destroy_each.Goals as goal

pub destroy_within-requires : goal.destroy_within-requires
destroy_within-requires c =
    record { fits = fits_after (times (length c.args.ids.now) destroyed_cost) (times c.loop-id.id-index destroyed_cost) _ _ _ c.requires.fits c.loop-id.invariant.spends (omega (arith, c.loop-id-test.true)) (omega arith) (omega arith) }

pub loop-id-preserved : goal.loop-id-preserved
loop-id-preserved c =
    let inv = c.loop-id.invariant in
    let id : ℕ = get_or c.args.ids.now c.loop-id.id-index 0 in
    let e = endpoint_of c.args.ctx.now in
    let s = c.args.serial in
    let ids : List ℕ = take c.loop-id.id-index c.args.ids.now in
    let next = take_more c.args.ids.now c.loop-id.id-index 0 c.loop-id-test.true in
    record {
      gone = ap endpoint_of c.destroy_within.ensures.ok ∙ ap (λ (x : Endpoint). destroys x id ((c.loop-id.last + 1) % 2 ^ 32)) inv.gone
          ∙ ap (λ (n : ℕ). destroys (destroys_all e s ids) id ((n + 1) % 2 ^ 32)) inv.serial ∙ sym (destroys_last e s ids id) ∙ ap (destroys_all e s) (sym next);
      serial = ap (λ (n : ℕ). (n + 1) % 2 ^ 32) inv.serial ∙ sym (serial_last s ids id) ∙ ap (serial_after s) (sym next);
      spends = spends_both _ (times c.loop-id.id-index destroyed_cost) destroyed_cost _ _ _ inv.spends c.destroy_within.ensures.spends (omega arith) (omega arith) (omega arith);
    }

pub returns-clause-spends : goal.returns-clause-spends
returns-clause-spends c = spends_within _ (times c.loop-id.id-index destroyed_cost) _ _ c.loop-id.invariant.spends (omega arith) (omega arith) (omega arith)
