-- The server of two joined ends, from right behind its handshake on.
use Rattle.std.specs.Prelude.{◌≡◌, Bool, true, List, Some}
use Rattle.ei_spec.specs.declared.interface.KnownInterface.TheVariants as known
use Rattle.ei_ends.specs.Sent.{Sent}
use Rattle.ei_ends.specs.Way.{End}
use Rattle.ei_told.specs.Told.{all_said, after_connection, NeverRefused}
use Rattle.ei_request.specs.Connection.{ConnectionView}
use Rattle.ei_acts.specs.Holding.{StandsWith}
use Rattle.ei_acts.specs.Sendable.{AnnouncesIt, HoldsAnnounced}

-- what the server said behind its connection is never refused, and all that it holds stands with a client that was told that
pub record IsHeard (sent : List Sent) (c : ConnectionView) : Type 0 where
  pub said : List Sent
  pub behind : after_connection sent ≡ Some said
  pub never : NeverRefused (all_said said)
  pub stands : StandsWith (all_said said) c

-- the end has the connection, and announced it and all that it holds; while it is steady, it is heard
pub record Serves (x : End) (c : ConnectionView) (steady : Bool) : Type 0 where
  pub backend : x.backend ≡ c.ctx
  pub connection : AnnouncesIt x.sent known.Connection c.proxy
  pub holds : HoldsAnnounced x.sent c
  pub heard : steady ≡ true → IsHeard x.sent c
