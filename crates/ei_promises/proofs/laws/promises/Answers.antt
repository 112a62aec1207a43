use Rattle.ei_promises.proofs.Given.{ShakingLaws}
use Rattle.ei_promises.proofs.Resting.{completes}
use Rattle.ei_promises.proofs.laws.promises.Goals as goal

pub returns : goal.returns
returns g c =
    let laws : ShakingLaws = record { begins = c.going_on.ensures.begins; server_takes = c.going_on.ensures.server_takes; client_takes = c.going_on.ensures.client_takes; server_later = c.going_on.ensures.server_later; server_refuses = c.both_ends.ensures.server; client_refuses = c.both_ends.ensures.client; handed = c.both_ends.ensures.handed; versions = c.both_ends.ensures.versions; client_sends = c.client_messages.ensures.sends; client_may = c.client_messages.ensures.may_send; short = c.client_messages.ensures.short; may_settle = c.server_messages.ensures.may_settle; small = c.server_messages.ensures.versions } in
    record { same = λ p keeps want. keeps.same; in_time = λ p keeps. keeps.in_time; completes = λ p keeps. completes laws p keeps }
