use Rattle.std.proofs.Common.{◌∙◌}
use Rattle.ei_iterator.specs.Around.{around}
use Rattle.ei_iterator.proofs.Running.{gives_queued, none_given, is_empty, next_from}
use Rattle.ei_iterator.proofs.OtherAnswer.{pieces_as, source_answers, sink_answers}
use Rattle.ei_iterator.proofs.iterator.EiConvertEventIterator.next.Goals as goal

-- an event is queued
pub returns-in-Some-clause-nexts : goal.returns-in-Some-clause-nexts
returns-in-Some-clause-nexts g c = rw (← c.self.view_is) (λ told left are.
    gives_queued _ _ _ _ told left _ c.in-Some.event _ c.next_event.new.self c.in-Some.is c.next_event.ensures.first c.next_event.ensures.rest are)

pub returns-in-Some-clause-gave : goal.returns-in-Some-clause-gave
returns-in-Some-clause-gave g c = none_given _

-- none is
pub take_pieces-taken-requires : goal.take_pieces-taken-requires
take_pieces-taken-requires g c =
    record { empty = is_empty (around c.self.inside.context c.self.inside.converter (g.K.Sink.view c.args.sink.now) (g.C.Clock.view c.args.clock.now).left) _ c.next_event.new.self c.in_default.is c.next_event.ensures.first c.next_event.ensures.rest }

pub returns-clause-nexts : goal.returns-clause-nexts
returns-clause-nexts g c = rw (← c.self.view_is) (λ told left are.
    next_from _ _ c.next_event.new.self c.in_default.is c.next_event.ensures.first c.next_event.ensures.rest _ _ told left _ _ _ c.answered.ensures
    (c.take_pieces-taken.ensures.nexts told left (pieces_as (λ e. (e.0, c.answered.ensures ∙ e.1)) are)))

pub returns-clause-source : goal.returns-clause-source
returns-clause-source g c = rw (← c.self.view_is) (source_answers c.take_pieces-taken.result c.answered.result c.answered.ensures _ c.take_pieces-taken.ensures.source)

pub returns-clause-sink : goal.returns-clause-sink
returns-clause-sink g c = sink_answers c.take_pieces-taken.result c.answered.result c.answered.ensures c.take_pieces-taken.ensures.sink
