use Rattle.ei_heeding.proofs.follow.follow_event.Goals as goal

pub returns : goal.returns
returns g c = λ start before readings h u heard.
    c.handled.ensures start before readings _ _ c.args.event _ _ c.handle_event.result h u c.handle_event.ensures.handles heard
