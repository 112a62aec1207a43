use Rattle.ei_promises.proofs.Given.{ShakingLaws}
use Rattle.ei_promises.proofs.ServerKeeps.{server_steps}
use Rattle.ei_promises.proofs.ClientFollows.{FollowingLaws}
use Rattle.ei_promises.proofs.ClientKeeps.{client_steps}
use Rattle.ei_promises.proofs.laws.stepping.Goals as goal

pub returns : goal.returns
returns g c =
    let laws : ShakingLaws = record { begins = c.going_on.ensures.begins; server_takes = c.going_on.ensures.server_takes; client_takes = c.going_on.ensures.client_takes; server_later = c.going_on.ensures.server_later; server_refuses = c.both_ends.ensures.server; client_refuses = c.both_ends.ensures.client; handed = c.both_ends.ensures.handed; versions = c.both_ends.ensures.versions; client_sends = c.client_messages.ensures.sends; client_may = c.client_messages.ensures.may_send; short = c.client_messages.ensures.short; may_settle = c.server_messages.ensures.may_settle; small = c.server_messages.ensures.versions } in
    let more : FollowingLaws = record { says = c.events.ensures.said; handled = c.handled.ensures; refusals = c.refusals.ensures.same; first = c.events-2.ensures.first } in
    record {
      server = λ p new before after result whole ok keeps s. let t = server_steps laws p whole ok keeps before after result new s in (t.keeps, λ fits want off. t.free off);
      client = λ p new told now result whole ok keeps s. let t = client_steps laws more g.H.Call.may_answer p whole ok keeps told now result new s in (t.keeps, λ fits want off. t.free (fits, off), t.refuses);
    }
