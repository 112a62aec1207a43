use Rattle.std.proofs.Common.{◌++◌, List, ℕ, sym, ap, ◌∙◌, append_assoc}
use Rattle.ei_request.specs.Held.{seat_ids}
use Rattle.ei_request.proofs.IdsInTurn.{seats_more}
use Rattle.ei_request.proofs.holding.push_all_ids.Goals as goal

pub loop-seat-preserved : goal.loop-seat-preserved
loop-seat-preserved c =
    let devices = c.args.devices.now.items in
    let seats = c.args.seats.now in
    let i = c.loop-seat.seat-index in
    let s = c.seat-item.result in
    c.in_ok-push_held_seat_ids.ensures.ok
    ∙ ap (λ (t : List ℕ). t ++ seat_ids devices s) c.loop-seat.invariant
    ∙ append_assoc c.args.ids.now.items _ _
    ∙ ap (λ (t : List ℕ). c.args.ids.now.items ++ t) (sym (seats_more devices seats i s c.loop-seat-test.true c.seat-item.is))
