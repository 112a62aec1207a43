-- The texts of why a client could not join.
use Rattle.std.specs.Prelude.{ℕ, List, codes}
use Rattle.ei_hub.specs.declared.join.JoinCause.{JoinCause}
use Rattle.ei_hub.specs.declared.join.JoinCause.TheVariants as cause

-- why a client could not join
abbrev pub join_cause_text : JoinCause → List ℕ
join_cause_text cause.Full = codes "too many clients"
join_cause_text cause.WriteFault = codes "IO error: write fault"
join_cause_text cause.NoMemory = codes "out of memory"
