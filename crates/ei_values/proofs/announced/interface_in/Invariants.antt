use Rattle.std.proofs.Common.{◌≡◌, map, drop}
use Rattle.ei_spec.specs.Rows as rows
use Rattle.ei_values.specs.Stored.{value_view}
use Rattle.ei_values.proofs.announced.interface_in.Given as goal

abbrev pub invariant-loop-value : goal.invariant-loop-value
invariant-loop-value l = rows.name_in (map value_view l.fn.values) ≡ rows.name_in (map value_view (drop l.value-index l.values))
