use Rattle.std.proofs.Common.{◌≡◌, map, take}
use Rattle.ei_wire.specs.Gives.{value_of_arg}
use Rattle.ei_values.specs.Stored.{value_view}
use Rattle.ei_values.proofs.value.args_of.Given as goal

abbrev pub invariant-loop-value : goal.invariant-loop-value
invariant-loop-value l = map value_of_arg l.args.items ≡ map value_view (take l.value-index l.values)
