use Rattle.std.proofs.Common.{◌≡◌, map, take, None}
use Rattle.std.specs.Prelude.{reverse}
use Rattle.ei_ends.specs.Announced.{announced}
use Rattle.ei_linked.specs.Stored.{sent_view}
use Rattle.ei_linked.proofs.met.find_sent.Given as goal

abbrev pub invariant-loop-message : goal.invariant-loop-message
invariant-loop-message l = announced l.fn.events (map sent_view (reverse (take l.message-index l.sent))) l.fn.id ≡ None
