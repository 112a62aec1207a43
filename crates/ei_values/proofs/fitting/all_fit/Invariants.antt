use Rattle.std.proofs.Common.{◌≡◌, map, drop}
use Rattle.ei_rows.specs.Parts.{kind_view}
use Rattle.ei_values.specs.Stored.{all_fit}
use Rattle.ei_values.proofs.fitting.all_fit.Given as goal

abbrev pub invariant-loop-place : goal.invariant-loop-place
invariant-loop-place l = all_fit (map kind_view l.fn.kinds) l.fn.values ≡ all_fit (map kind_view (drop l.place l.kinds)) (drop l.place l.values)
