use Rattle.std.proofs.Common.{ap, sym, ◌∙◌}
use Rattle.ei_spec.specs.Interface.{known_of}
use Rattle.ei_values.proofs.OneByOne.{no_name}
use Rattle.ei_values.proofs.announced.interface_in.Goals as goal

pub returns : goal.returns
returns c = no_name c.args.values.now c.loop-value.value-index c.loop-value-test.false ∙ ap known_of (sym c.loop-value.invariant)
