use Rattle.ei_promises.proofs.Given.{ShakingLaws}
use Rattle.ei_promises.proofs.Resting.{new_keeps, moves, flush_same, deliver_same, client_queue_keeps, server_queue_keeps, spent_keeps}
use Rattle.ei_promises.proofs.laws.resting.Goals as goal

pub returns : goal.returns
returns g c =
    let laws : ShakingLaws = record { begins = c.going_on.ensures.begins; server_takes = c.going_on.ensures.server_takes; client_takes = c.going_on.ensures.client_takes; server_later = c.going_on.ensures.server_later; server_refuses = c.both_ends.ensures.server; client_refuses = c.both_ends.ensures.client; handed = c.both_ends.ensures.handed; versions = c.both_ends.ensures.versions; client_sends = c.client_messages.ensures.sends; client_may = c.client_messages.ensures.may_send; short = c.client_messages.ensures.short; may_settle = c.server_messages.ensures.may_settle; small = c.server_messages.ensures.versions } in
    record {
      begins = λ name kind serial p utf8 small n. new_keeps laws name kind serial p utf8 small n;
      moves = λ p w s whole still ok then keeps. moves p w s whole still ok then keeps;
      flushes = flush_same;
      delivers = deliver_same;
      client_queue = λ p f queue is keeps. client_queue_keeps p f queue is keeps;
      server_queue = λ p s queue is keeps. server_queue_keeps p s queue is keeps;
      spent = λ old new keeps s. spent_keeps old new keeps s;
    }
