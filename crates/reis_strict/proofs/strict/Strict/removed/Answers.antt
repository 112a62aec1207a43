use Rattle.std.proofs.Common.{sym, subst}
use Rattle.reis_strict.specs.Devices.{AreNamed}
use Rattle.reis_strict.proofs.Named.{named_remove}
use Rattle.reis_strict.proofs.strict.Strict.removed.Goals as goal

pub invariant_of-self : goal.invariant_of-self
invariant_of-self c = subst AreNamed (sym c.take.ensures.others) (named_remove c.self.inside.devices c.args.device c.self.invariant)
