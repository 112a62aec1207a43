-- A client's end was handed an event, which its converter handled or its handshaker.
use Rattle.std.proofs.Common.{Some, refl}
use Rattle.ei_backend.proofs.Lending.{untouched_clock}
use Rattle.ei_pair.proofs.Finishing.{hears_following, hears_asking}
use Rattle.ei_pair.proofs.following.hear.Goals as goal

pub returns-in-Some-clause-hears : goal.returns-in-Some-clause-hears
returns-in-Some-clause-hears g c =
    let e = c.handle_event.ensures in
    hears_following g.H.Call.may_answer c.args.converter.now c.in-Some.converter c.handle_event.new.self c.args.asks.now c.args.asks.now c.args.context.now c.handle_event.new.ctx c.args.event (g.C.Clock.view c.args.clock.now).left
    (g.C.Clock.view c.handle_event.new.clock).left c.handle_event.result (Some c.handle_event.new.self) c.in-Some.is e.handles e.receipts e.handlers e.sends e.unsent refl refl

pub returns-in-None-clause-hears : goal.returns-in-None-clause-hears
returns-in-None-clause-hears g c =
    hears_asking g.H.Call.may_answer c.args.converter.now c.args.asks.now c.ask.new.asks c.args.context.now c.ask.new.context c.args.event (g.C.Clock.view c.args.clock.now).left (g.C.Clock.view c.args.clock.now).left c.ask.result c.ask.new.converter
    c.in-None.is c.ask.ensures refl

pub returns-in-None-clause-clock : goal.returns-in-None-clause-clock
returns-in-None-clause-clock g c = untouched_clock (g.met.C.Clock.later_refl _)
