-- What the entries end as, where a `&mut` to a value is returned.
use Rattle.std.specs.Prelude.{ℕ, Option}
use Rattle.std.specs.Borrow.{LendsIf, Fml, RattleType, MutBor}
use Rattle.ei_keyed.specs.Keyed.{KeyedView, with_value}
use Rattle.ei_keyed.specs.contracts.Keyed.{the_row}

-- once the borrow r ends, the key has the last value written through r; at `None` the entries stay as they are
abbrev pub lends_get : (V : RattleType) → MutBor (KeyedView V.Denot) → ℕ → Option (MutBor V.Denot) → Fml
lends_get V k key r = LendsIf (the_row V) V k r (λ w. record k.now { items = with_value key k.now.items w }) k.now
