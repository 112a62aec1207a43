use Rattle.std.proofs.Common.{◌≡◌, map, take, None}
use Rattle.std.specs.Prelude.{reverse}
use Rattle.ei_ends.specs.Joined.{heard}
use Rattle.ei_linked.specs.Stored.{got_view}
use Rattle.ei_linked.proofs.met.find_taken.Given as goal

abbrev pub invariant-loop-got : goal.invariant-loop-got
invariant-loop-got l = heard l.fn.events (map got_view (reverse (take l.got-index l.taken))) l.fn.id ≡ None
