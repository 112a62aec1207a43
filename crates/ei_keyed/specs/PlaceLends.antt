-- What a place, and what all of them end as, where a `&mut` to a value is returned.
use Rattle.std.specs.Prelude.{ℕ, Option, Some}
use Rattle.std.specs.Borrow.{Lends, LendsIf, Fml, RattleType, MutBor}
use Rattle.std.specs.contracts.option.Option.{the_row as option_row}
use Rattle.ei_keyed.specs.Places.{PlacesView, with_written}
use Rattle.ei_keyed.specs.contracts.places.Places.{the_row}

-- once the borrow r ends, there is the last value written through r
abbrev pub lends_some : (V : RattleType) → MutBor (Option V.Denot) → MutBor V.Denot → Fml
lends_some V o r = Lends (option_row V) V o r (λ w. Some w)

module _ (V : RattleType) (p : MutBor (PlacesView V.Denot)) (key : ℕ) where
  -- once the borrow r ends, the first value of the key is the last one written through r
  abbrev pub lends_value : MutBor V.Denot → Fml
  lends_value r = Lends (the_row V) V p r (λ w. record p.now { places = with_written key p.now.places w })

  -- the same where r is a reference, and at `None` the places stay as they are
  abbrev pub lends_place : Option (MutBor V.Denot) → Fml
  lends_place r = LendsIf (the_row V) V p r (λ w. record p.now { places = with_written key p.now.places w }) p.now
