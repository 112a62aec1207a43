use Rattle.std.proofs.Common.{◌≡◌, take}
use Rattle.std.specs.List.{flat_map}
use Rattle.ei_values.specs.Stored.{fills, AreLawful}
use Rattle.ei_values.proofs.filling.filled.Given as goal

abbrev pub invariant-loop-value : goal.invariant-loop-value
invariant-loop-value l = record {
  filled : l.out ≡ flat_map (fills l.next) (take l.value-index l.values);
  lawful : AreLawful (take l.value-index l.values);
}
