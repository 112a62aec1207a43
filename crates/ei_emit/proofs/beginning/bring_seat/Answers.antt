-- The seat is added, and what was said of it is carried to the client.
use Rattle.ei_emit.proofs.Hearing.{HearingLaws}
use Rattle.ei_emit.proofs.SeatComes.{seat_comes}
use Rattle.ei_emit.proofs.beginning.bring_seat.Goals as goal

pub returns-clause-begins : goal.returns-clause-begins
returns-clause-begins g c = λ start small shaken.
    let laws : HearingLaws = record { says = c.events.ensures.said; handled = c.handled.ensures } in
    seat_comes laws c.beginning.ensures.rests c.beginning.ensures.begins start small c.args.pair.now c.add_seat.new.pair c.carry.new.pair
    (g.C.Clock.view c.args.clock.now).left (g.C.Clock.view c.carry.new.clock).left c.in_ok-seat.seat shaken
    c.in_ok-seat.ensures.does c.in_ok-seat.ensures.sends c.in_ok-seat.ensures.whole c.in_ok-carry.ensures.carried
