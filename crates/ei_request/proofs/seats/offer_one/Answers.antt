use Rattle.std.proofs.Common.{List, ℕ, [], ◌∷◌, ap, ◌∙◌, arith}
use Rattle.ei_spec.specs.Interface.{name_of}
use Rattle.ei_spec.specs.Value.{Long, Letters}
use Rattle.ei_types.specs.Capability.{interface_of}
use Rattle.ei_backend.specs.Backend.{sent}
use Rattle.ei_request.specs.Costs.{capability_cost}
use Rattle.ei_request.proofs.Rooms.{ok_at, few_capability}
use Rattle.ei_request.proofs.Spending.{spends_sent}
use Rattle.ei_request.proofs.seats.offer_one.Goals as goal

pub returns-clause-spends : goal.returns-clause-spends
returns-clause-spends c =
    let id = c.args.seat.now.id in
    let bit = c.bit.result in
    spends_sent capability_cost _ _ id 2 (Long bit ∷ Letters (name_of (interface_of c.args.one)) ∷ [])
    (ok_at c.capability.result c.unwrap.result c.unwrap.ensures c.capability.ensures.sends.ok ∙ ap (λ (t : List ℕ). sent c.args.ctx.now id 2 (Long bit ∷ Letters t ∷ [])) c.interface_name.ensures)
    (few_capability (interface_of c.args.one) id bit) (omega arith)
