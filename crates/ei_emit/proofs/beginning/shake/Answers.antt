-- There, back and there.
use Rattle.ei_promises.proofs.Given.{ShakingLaws}
use Rattle.ei_emit.proofs.Shaken.{shakes_hands}
use Rattle.ei_emit.proofs.beginning.shake.Goals as goal

pub returns-clause-shakes : goal.returns-clause-shakes
returns-clause-shakes g c =
    let laws : ShakingLaws = record {
      begins = c.going_on.ensures.begins;
      server_takes = c.going_on.ensures.server_takes;
      client_takes = c.going_on.ensures.client_takes;
      server_later = c.going_on.ensures.server_later;
      server_refuses = c.both_ends.ensures.server;
      client_refuses = c.both_ends.ensures.client;
      handed = c.both_ends.ensures.handed;
      versions = c.both_ends.ensures.versions;
      client_sends = c.client_messages.ensures.sends;
      client_may = c.client_messages.ensures.may_send;
      short = c.client_messages.ensures.short;
      may_settle = c.server_messages.ensures.may_settle;
      small = c.server_messages.ensures.versions;
    } in
    shakes_hands laws c.events.ensures.first _ _ _ _ c.in_ok-carry.ensures.carried c.in_ok-carry-2.ensures.carried c.in_ok-carry-3.ensures.carried
