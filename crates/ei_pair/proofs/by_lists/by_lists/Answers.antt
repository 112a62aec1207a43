use Rattle.ei_promises.proofs.Given.{ShakingLaws}
use Rattle.ei_pair.proofs.FirstIds.{first_ids}
use Rattle.ei_pair.proofs.Done.{server_steps_done, client_steps_done}
use Rattle.ei_pair.proofs.by_lists.by_lists.Goals as goal

pub returns : goal.returns
returns g c =
    let laws : ShakingLaws = record { begins = c.going_on.ensures.begins; server_takes = c.going_on.ensures.server_takes; client_takes = c.going_on.ensures.client_takes; server_later = c.going_on.ensures.server_later; server_refuses = c.both_ends.ensures.server; client_refuses = c.both_ends.ensures.client; handed = c.both_ends.ensures.handed; versions = c.both_ends.ensures.versions; client_sends = c.client_messages.ensures.sends; client_may = c.client_messages.ensures.may_send; short = c.client_messages.ensures.short; may_settle = c.server_messages.ensures.may_settle; small = c.server_messages.ensures.versions } in
    record {
      server = λ p new before after result whole ok keeps s. (λ t. server_steps_done laws p whole ok keeps t before after result new s, first_ids laws p whole ok keeps before after result new s);
      client = λ p new told now result whole ok keeps s t. client_steps_done laws c.events.ensures.first g.H.Call.may_answer p whole ok keeps t told now result new s;
    }
