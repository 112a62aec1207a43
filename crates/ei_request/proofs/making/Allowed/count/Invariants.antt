use Rattle.std.proofs.Common.{◌≡◌, ◌≤◌, length, take}
use Rattle.ei_request.proofs.MadeInTurn.{so_far}
use Rattle.ei_request.proofs.making.Allowed.count.Given as goal

-- the interfaces of the capabilities so far
abbrev pub invariant-loop-one : goal.invariant-loop-one
invariant-loop-one l = record {
  counted : l.count ≡ length (so_far l.self.given l.self.wanted (take l.one-index l.one-items));
  few : l.count ≤ l.one-index;
}
