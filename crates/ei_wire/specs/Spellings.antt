-- The spellings of the values of a kind.
use Rattle.std.specs.Prelude.{ℕ, List}
use Rattle.ei_spec.specs.Value.{Kind, Value, IsOf, HasSpelling}
use Rattle.ei_spec.specs.Spelling.{Spells}

-- the bytes spell the value, which is one of the kind
pub record IsSpelling (k : Kind) (v : Value) (bytes : List ℕ) : Type 0 where
  pub of : IsOf k v
  pub short : HasSpelling v
  pub spelled : Spells v bytes
