-- Values by ids.
use Rattle.std.specs.Prelude.{◌≡◌, ℕ, Bool, true, false, Option, Some, None}
use Rattle.std.specs.Ordering.{nat_cmp}
use Rattle.std.specs.FinMap as finite

module _ {V : Type 0} where
  -- whether there is a value that passes the test
  abbrev pub passes : (V → Bool) → Option V → Bool
  passes test None = false
  passes test (Some value) = test value

  -- the ids whose values pass the test, with these
  abbrev pub kept : (V → Bool) → finite.FinMap nat_cmp V → finite.FinMap nat_cmp V
  kept test values = finite.retain_keys values (λ id. passes test (finite.get values id))

  -- one of the values that pass the test; none exactly where no value passes
  abbrev pub Finds : (V → Bool) → finite.FinMap nat_cmp V → Option V → Type 0
  Finds test values None = (id : ℕ) → passes test (finite.get values id) ≡ false
  Finds test values (Some value) = (id : ℕ) × (finite.get values id ≡ Some value) × (test value ≡ true)
