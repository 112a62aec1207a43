use Rattle.ei_promises.proofs.Given.{ShakingLaws}
use Rattle.ei_promises.proofs.ClientFollows.{FollowingLaws}
use Rattle.ei_promises.proofs.Sends.{asks_sent, follows_sent}
use Rattle.ei_promises.proofs.Staying.{connection_kept}
use Rattle.ei_promises.proofs.laws.client_sends.Goals as goal

pub returns : goal.returns
returns g c =
    let laws : ShakingLaws = record { begins = c.going_on.ensures.begins; server_takes = c.going_on.ensures.server_takes; client_takes = c.going_on.ensures.client_takes; server_later = c.going_on.ensures.server_later; server_refuses = c.both_ends.ensures.server; client_refuses = c.both_ends.ensures.client; handed = c.both_ends.ensures.handed; versions = c.both_ends.ensures.versions; client_sends = c.client_messages.ensures.sends; client_may = c.client_messages.ensures.may_send; short = c.client_messages.ensures.short; may_settle = c.server_messages.ensures.may_settle; small = c.server_messages.ensures.versions } in
    let more : FollowingLaws = record { says = c.events.ensures.said; handled = c.handled.ensures; refusals = c.refusals.ensures.same; first = c.events-2.ensures.first } in
    record {
      asks = λ p k left e answer ctx whole ok keeps is reads d. asks_sent laws more p whole ok keeps k is e reads answer left ctx d;
      follows = λ p f e answer whole ok keeps is lawful reads. follows_sent more g.H.Call.may_answer p whole ok keeps f is e lawful reads answer;
      kept = λ k new e told now answer d. connection_kept k new e told now answer d;
    }
