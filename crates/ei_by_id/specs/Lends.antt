-- What the values end as, where a `&mut` to one is returned.
use Rattle.std.specs.Prelude.{ℕ, Option}
use Rattle.std.specs.Ordering.{nat_cmp}
use Rattle.std.specs.FinMap as finite
use Rattle.std.specs.Borrow.{LendsIf, Fml, RattleType, MutBor}
use Rattle.ei_by_id.specs.contracts.ById.{the_row}

-- once the borrow r ends, the id has the last value written through r; at `None` the values stay as they are
abbrev pub lends_get : (V : RattleType) → MutBor (finite.FinMap nat_cmp V.Denot) → ℕ → Option (MutBor V.Denot) → Fml
lends_get V m id r = LendsIf (the_row V) V m r (λ w. finite.insert m.now id w) m.now
