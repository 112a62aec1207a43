-- Values by keys, as a finite map.
use Rattle.std.specs.Prelude.{ℕ, List}
use Rattle.std.specs.Ordering.{nat_cmp}
use Rattle.std.specs.FinMap as finite

-- a key has the first of its values
abbrev pub map_of : {V : Type 0} → List (ℕ × V) → finite.FinMap nat_cmp V
map_of xs = finite.from_entries xs
