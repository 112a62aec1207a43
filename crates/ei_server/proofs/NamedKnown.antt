-- The name of an interface names that interface.
use Rattle.std.proofs.Common.{◌≡◌, ap}
use Rattle.ei_spec.specs.declared.interface.KnownInterface.{KnownInterface}
use Rattle.ei_spec.specs.Interface.{Known, name_of, named, named_as}
use Rattle.ei_spec.proofs.NameLaws.{known_again}

pub named_known : (k : KnownInterface) → named (name_of k) ≡ Known k
named_known k = ap (named_as (name_of k)) (known_again k)
