-- The readings of a clock that several clients share.
use Rattle.std.specs.Prelude.{◌≡◌, ℕ, List, [], ◌∷◌, drop, Option, Some}
use Rattle.ei_serve.specs.Around.{first_readings, AreDrawn, LeavesReadings}

-- a clock that told its readings gave these, its first with 0 past their end, and has the others left
abbrev pub AreTaken : Option (List ℕ) → Option (List ℕ) → List ℕ → Type 0
AreTaken before after used = AreDrawn used before × LeavesReadings used before after

-- a clock that told its readings gave some, and has the others left
abbrev pub GaveReadings : Option (List ℕ) → Option (List ℕ) → Type 0
GaveReadings before after = (told : List ℕ) → before ≡ Some told → (n : ℕ) × (after ≡ Some (drop n told))

-- some of these, in their order
pub data IsAmong : List ℕ → List ℕ → Type 0 where
  Nothing : IsAmong [] []
  Skips : (time : ℕ) → {some all : List ℕ} → IsAmong some all → IsAmong some (time ∷ all)
  Takes : (time : ℕ) → {some all : List ℕ} → IsAmong some all → IsAmong (time ∷ some) (time ∷ all)

-- some of the readings that a clock gave, where it told them, in their order, with 0 past their end
abbrev pub AreSomeGiven : Option (List ℕ) → Option (List ℕ) → List ℕ → Type 0
AreSomeGiven before after used =
    (told : List ℕ) → before ≡ Some told → (n : ℕ) × (after ≡ Some (drop n told)) × IsAmong used (first_readings n told)
