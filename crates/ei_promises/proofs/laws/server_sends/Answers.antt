use Rattle.ei_promises.proofs.Given.{ShakingLaws}
use Rattle.ei_promises.proofs.Sends.{shakes_sent, serves_sent}
use Rattle.ei_promises.proofs.laws.server_sends.Goals as goal

pub returns : goal.returns
returns g c =
    let laws : ShakingLaws = record { begins = c.going_on.ensures.begins; server_takes = c.going_on.ensures.server_takes; client_takes = c.going_on.ensures.client_takes; server_later = c.going_on.ensures.server_later; server_refuses = c.both_ends.ensures.server; client_refuses = c.both_ends.ensures.client; handed = c.both_ends.ensures.handed; versions = c.both_ends.ensures.versions; client_sends = c.client_messages.ensures.sends; client_may = c.client_messages.ensures.may_send; short = c.client_messages.ensures.short; may_settle = c.server_messages.ensures.may_settle; small = c.server_messages.ensures.versions } in
    record {
      shakes = λ p h left r answer ctx whole ok keeps is reads d. shakes_sent laws p whole ok keeps h is r reads answer left ctx d;
      serves = λ p s left r before after answer whole ok keeps is reads d. serves_sent p whole ok keeps s is r reads before after answer left d;
    }
