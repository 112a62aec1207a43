-- What waits to be handed out.
use Rattle.std.specs.Prelude.{ℕ, List, [], ◌∷◌, Option, Some, None}

-- what waits, the oldest first; how many of the newest of them can be taken out at once; and how many more there is room for
pub record QueueView (T : Type 0) : Type 0 where
  pub items : List T
  pub newest : ℕ
  pub room : ℕ

-- the oldest, and the others
abbrev pub first_of : {T : Type 0} → List T → Option T
first_of [] = None
first_of (x ∷ xs) = Some x

abbrev pub rest_of : {T : Type 0} → List T → List T
rest_of [] = []
rest_of (x ∷ xs) = xs
