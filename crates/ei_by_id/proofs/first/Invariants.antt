use Rattle.std.proofs.Common.{◌≡◌, Bool, length}
use Rattle.ei_keyed.specs.Keyed.{Decides}
use Rattle.ei_by_id.specs.Entries.{first_value}
use Rattle.ei_by_id.proofs.first.Given as goal

-- the first is among those that are left
abbrev pub invariant-loop-value : goal.invariant-loop-value
invariant-loop-value g l = (test_of : g.row.V.Denot → Bool) → Decides g.F.Fn test_of l.test → first_value test_of l.rest ≡ first_value test_of l.values.items

abbrev pub decreases-loop-value : goal.decreases-loop-value
decreases-loop-value g l = length l.rest
