use Rattle.std.proofs.Common.{◌≡◌, map, take}
use Rattle.ei_spec.specs.Rows as rows
use Rattle.ei_values.specs.Stored.{value_view}
use Rattle.ei_values.proofs.announced.version_of.Given as goal

abbrev pub invariant-loop-value : goal.invariant-loop-value
invariant-loop-value l = l.version ≡ rows.version_of (map value_view (take l.value-index l.values))
