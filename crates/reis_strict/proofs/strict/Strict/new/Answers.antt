use Rattle.std.proofs.Common.{sym, subst}
use Rattle.reis_strict.specs.Devices.{AreNamed}
use Rattle.reis_strict.proofs.Named.{named_empty}
use Rattle.reis_strict.proofs.strict.Strict.new.Goals as goal

pub invariant_of-result : goal.invariant_of-result
invariant_of-result c = subst AreNamed (sym c.new.ensures) named_empty
