use Rattle.std.proofs.Common.{◌≡◌, map, drop}
use Rattle.ei_spec.specs.Rows as rows
use Rattle.ei_rows.specs.Parts.{kind_view}
use Rattle.ei_values.specs.Stored.{value_view}
use Rattle.ei_values.proofs.announced.new_id.Given as goal

abbrev pub invariant-loop-place : goal.invariant-loop-place
invariant-loop-place l =
    rows.new_id (map kind_view l.fn.kinds) (map value_view l.fn.values) ≡ rows.new_id (map kind_view (drop l.place l.kinds)) (map value_view (drop l.place l.values))
