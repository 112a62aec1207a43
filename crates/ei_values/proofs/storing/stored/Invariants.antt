use Rattle.std.proofs.Common.{◌≡◌, map, take}
use Rattle.ei_rows.specs.Parts.{kind_view}
use Rattle.ei_wire.specs.Gives.{value_of_arg}
use Rattle.ei_values.specs.Stored.{all_stored}
use Rattle.ei_values.proofs.storing.stored.Given as goal

abbrev pub invariant-loop-place : goal.invariant-loop-place
invariant-loop-place l = l.values ≡ all_stored (map kind_view (take l.place l.kinds)) (map value_of_arg (take l.place l.args))
