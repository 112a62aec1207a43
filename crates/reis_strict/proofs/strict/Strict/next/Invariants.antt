use Rattle.std.proofs.Common.{length}
use Rattle.reis_strict.specs.Sifting.{waiting}
use Rattle.reis_strict.proofs.Turned.{Dropping}
use Rattle.reis_strict.proofs.strict.Strict.next.Given as goal

abbrev pub invariant-turns : goal.invariant-turns
invariant-turns l = Dropping l.fn.self l.fn.connection l.self l.connection

abbrev pub decreases-turns : goal.decreases-turns
decreases-turns l = length (waiting l.self l.connection)
