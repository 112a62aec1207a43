use Rattle.std.proofs.Common.{sym, subst, ◌∙◌}
use Rattle.reis_strict.specs.Devices.{AreNamed}
use Rattle.reis_strict.proofs.Named.{named_empty}
use Rattle.reis_strict.proofs.strict.Strict.end.Goals as goal

pub invariant_of-self : goal.invariant_of-self
invariant_of-self c = subst AreNamed (sym (c.replace.ensures.after ∙ c.new.ensures)) named_empty
