use Rattle.ei_event.proofs.converter.EiEventConverter.handle_event.Goals as goal

pub returns-then-take_likely-clause-handles : goal.returns-then-take_likely-clause-handles
returns-then-take_likely-clause-handles g c = rw (← c.self.view_is) (c.if-take_likely.ensures.handles _)
