use Rattle.std.proofs.Common.{◌≡◌, true}
use Rattle.ei_hub.proofs.Limits.{has_end}
use Rattle.ei_hub.proofs.Sinces.{since_ended, since_turned}
use Rattle.ei_hub.proofs.hub.Hub.serve_at.Goals as goal

-- it had its end
pub returns-then-not-goes_on-clause-since : goal.returns-then-not-goes_on-clause-since
returns-then-not-goes_on-clause-since g c = λ d e at now.
    since_ended g.S.Source.view g.S.Source.later g.K.Sink.view g.K.Sink.later
    g.met.S.Source.later_refl g.met.K.Sink.later_refl 1 _ _ d e at now
    (λ none. let on : c.goes_on.result ≡ true = (c.goes_on.ensures d at).1 none in absurd cc)

pub returns-then-not-goes_on-clause-ended : goal.returns-then-not-goes_on-clause-ended
returns-then-not-goes_on-clause-ended g c = λ off d at.
    has_end d.end (λ none. let on : c.goes_on.result ≡ true = (c.goes_on.ensures d at).1 none in absurd cc)

-- it had a turn
pub returns-clause-since : goal.returns-clause-since
returns-clause-since g c = λ d e at now.
    since_turned g.S.Source.view g.S.Source.later g.K.Sink.view g.K.Sink.later
    _ _ d e ((c.goes_on.ensures d at).0 c.if-not-goes_on.false) (λ setup start pieces times. c.turn_at.ensures.alone setup start pieces times d e at now)
    (c.turn_at.ensures.source d e at now) (c.turn_at.ensures.sink d e at now) (c.turn_at.ensures.more d e at now)

pub returns-clause-ended : goal.returns-clause-ended
returns-clause-ended g c = λ off d now.
    has_end d.end (λ none. let on : c.goes_on-2.result ≡ true = (c.goes_on-2.ensures d now).1 none in absurd cc)
