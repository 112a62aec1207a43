use Rattle.std.proofs.Common.{refl}
use Rattle.ei_spec.proofs.EnumLaws.{value_read, unknown_refused, no_number}
use Rattle.ei_spec.proofs.laws.enums.Goals as goal

pub returns : goal.returns
returns c = record { value = value_read; unknown = unknown_refused; refused = no_number; every = λ s. refl }
