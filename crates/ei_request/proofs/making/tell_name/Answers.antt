use Rattle.std.proofs.Common.{[], ◌∷◌, Some, arith}
use Rattle.ei_spec.specs.Value.{Letters}
use Rattle.ei_request.specs.Costs.{name_cost}
use Rattle.ei_request.proofs.Rooms.{ok_at, text_size}
use Rattle.ei_request.proofs.Spending.{spends_sent}
use Rattle.ei_request.proofs.making.tell_name.Goals as goal

pub returns-in-Some-clause-spends : goal.returns-in-Some-clause-spends
returns-in-Some-clause-spends c =
    let id = c.args.device.now.id in
    let name = c.in-Some.name.now in
    rw c.in-Some.is (spends_sent (name_cost (Some name)) _ _ id 1 (Letters name ∷ []) (ok_at c.name.result c.unwrap.result c.unwrap.ensures c.name.ensures.sends.ok) (omega (arith, text_size id 1 name)) (omega arith))
