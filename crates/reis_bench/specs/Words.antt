-- What the words of a row may be.
use Rattle.std.specs.Prelude.{◌<◌, ◌≤◌}
use Rattle.reis_bench.specs.declared.words.Row.{Row}
use Rattle.reis_bench.specs.declared.words.Row.TheVariants as rows

-- a piece has 1 to 65536 bytes
abbrev pub IsWithin : Row → Type 0
IsWithin (rows.Parse piece groups) = (0 < piece) × (piece ≤ 65536)
IsWithin (rows.Send messages) = Unit {0}
IsWithin (rows.Client messages) = Unit {0}
IsWithin (rows.Events groups) = Unit {0}
IsWithin (rows.Handshake messages) = Unit {0}
IsWithin (rows.Session doing) = Unit {0}
IsWithin (rows.Sends groups) = Unit {0}
IsWithin (rows.Tells groups) = Unit {0}
