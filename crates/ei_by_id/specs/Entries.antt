-- How `ById` keeps its values. No public clause cites this module.
use Rattle.std.specs.Prelude.{◌≡◌, ℕ, Bool, List, [], ◌∷◌, Option, Some, None, if◌then◌else◌}
use Rattle.ei_keyed.specs.Keyed.{keyed}

-- no key stands twice
abbrev pub KeysDiffer : {V : Type 0} → List (ℕ × V) → Type 0
KeysDiffer [] = Unit {0}
KeysDiffer (x ∷ xs) = (keyed x.0 xs ≡ None) × KeysDiffer xs

-- the first value that passes the test
abbrev pub first_value : {V : Type 0} → (V → Bool) → List (ℕ × V) → Option V
first_value test [] = None
first_value test (x ∷ xs) = if test x.1 then Some x.1 else first_value test xs
