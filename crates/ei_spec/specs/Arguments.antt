-- The arguments of a message, all together.
use Rattle.std.specs.Prelude.{ℕ, ◌+◌, ◌*◌, ◌≤◌, List, [], ◌∷◌, length}
use Rattle.std.specs.List.{flat_map}
use Rattle.ei_spec.specs.declared.handle.Handle.{Handle}
use Rattle.ei_spec.specs.Value.{Kind, Value, IsOf, written, handles_of}
use Rattle.ei_spec.specs.Reading.{Unread}

-- the values are of these kinds, one after another
abbrev pub AreOf : List Kind → List Value → Type 0
AreOf [] [] = Unit {0}
AreOf (kind ∷ kinds) (value ∷ values) = IsOf kind value × AreOf kinds values
AreOf kinds values = ⊥

-- a message of these arguments has at most one handle, and with one it has at least 24 bytes
pub record HasFewHandles (values : List Value) : Type 0 where
  pub one : length (flat_map handles_of values) ≤ 1
  pub long : 24 * length (flat_map handles_of values) ≤ 16 + length (flat_map written values)

-- the values as they are written, with so many of these handles taken before them
abbrev pub before_values : List Handle → ℕ → List Value → Unread
before_values handles taken values = record { bytes = flat_map written values; handles = handles; taken = taken }

-- what is left behind them
abbrev pub behind_values : List Handle → ℕ → List Value → Unread
behind_values handles taken values = record { bytes = []; handles = handles; taken = taken + length (flat_map handles_of values) }
