use Rattle.ei_promises.proofs.Given.{ShakingLaws}
use Rattle.ei_promises.proofs.Doing.{server_keeps_on, client_keeps_on, sync_sent, syncs_keep}
use Rattle.ei_promises.proofs.laws.doing.Goals as goal

pub returns : goal.returns
returns g c =
    let laws : ShakingLaws = record { begins = c.going_on.ensures.begins; server_takes = c.going_on.ensures.server_takes; client_takes = c.going_on.ensures.client_takes; server_later = c.going_on.ensures.server_later; server_refuses = c.both_ends.ensures.server; client_refuses = c.both_ends.ensures.client; handed = c.both_ends.ensures.handed; versions = c.both_ends.ensures.versions; client_sends = c.client_messages.ensures.sends; client_may = c.client_messages.ensures.may_send; short = c.client_messages.ensures.short; may_settle = c.server_messages.ensures.may_settle; small = c.server_messages.ensures.versions } in
    record {
      server = λ p s call left whole ok keeps is may makes then. server_keeps_on laws p s call left whole ok keeps is may makes then;
      client = λ p f m whole ok keeps is then. client_keeps_on p f m whole ok keeps is then;
      may_sync = λ p f whole ok keeps is left. sync_sent p f whole ok keeps is left;
      syncs = λ p new f handler answer whole ok keeps is s then. syncs_keep p new f handler answer whole ok keeps is s then;
    }
