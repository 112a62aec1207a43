use Rattle.std.proofs.Common.{sym, ◌∙◌}
use Rattle.ei_event.specs.Typed.{said_of}
use Rattle.ei_iterator.proofs.Accounting.{goes_on}
use Rattle.ei_iterator.proofs.laws.nexts.Goals as goal

pub returns : goal.returns
returns g c = λ most told left result old new start before readings given n a. goes_on c.events.ensures.took
    (λ from past read k e reason h is. c.frames_after.ensures.nothing from past (said_of e) (c.refused_events.ensures.item past (said_of e) reason (sym (c.refusals.ensures.same from past read k e h) ∙ is)))
    g.H.Call.may_answer most told left old new start before readings given a result n
