use Rattle.ei_hub.proofs.Limits.{within_still, one_more}
use Rattle.ei_hub.proofs.Turned.{turned, turn_gave_readings}
use Rattle.ei_hub.proofs.client.Client.turn.Goals as goal

pub returns-clause-alone : goal.returns-clause-alone
returns-clause-alone g c = λ setup start pieces times alone.
    turned setup start pieces times _ alone _ _ _ c.turn-turned.result c.ended_by.ensures (c.turn-turned.ensures.turns setup pieces times alone.stands)

pub returns-clause-within : goal.returns-clause-within
returns-clause-within g c = λ limit w none. within_still _ _ c.turn-turned.result _ _ _ c.ended_by.ensures c.turn-turned.ensures.turns c.turn-turned.ensures.stood none limit w

pub returns-clause-more : goal.returns-clause-more
returns-clause-more g c = λ none. one_more _ _ c.turn-turned.result _ _ _ c.ended_by.ensures c.turn-turned.ensures.turns c.turn-turned.ensures.stood none

pub returns-clause-gave : goal.returns-clause-gave
returns-clause-gave g c =
    let h = c.turn-turned.ensures.stood in
    turn_gave_readings h.setup h.pieces h.times _ _ _ _ (c.turn-turned.ensures.turns h.setup h.pieces h.times h.stands)
