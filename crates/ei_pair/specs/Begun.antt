-- Both ends as they begin: the server has its greeting ready.
use Rattle.std.specs.Prelude.{◌≡◌, true, List}
use Rattle.ei_backend.specs.Backend.{BackendView}
use Rattle.ei_ends.specs.Sent.{Sent}
use Rattle.ei_linked.specs.Held.{stored_by}
use Rattle.ei_linked.specs.Written.{AreWritten, stored_onto}
use Rattle.ei_linked.specs.Ends.{EndsView, IsNewEnds}
use Rattle.ei_pair.specs.declared.server_end.ServerEnd.{ServerEnd}
use Rattle.ei_pair.specs.declared.server_end.ServerEnd.TheVariants as end
use Rattle.ei_pair.specs.ServerEnd.{endpoint_in}

-- new ends of a client and of a server that shakes hands, with what the server wrote stored
pub record JoinsAt (client server : BackendView) (ends : EndsView ServerEnd) : Type 0 where
  pub fresh : EndsView ServerEnd
  pub is_fresh : IsNewEnds client (end.Shaking server) fresh
  pub stores : (ms : List Sent) → AreWritten true (record { bytes = 0; handles = 0 }) ms (stored_by endpoint_in fresh.server) →
      ends ≡ record fresh { server = record fresh.server { sent = stored_onto true ms fresh.server.sent } }
