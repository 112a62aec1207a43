-- The pieces that a source tells, or that it gives.
use Rattle.std.specs.Prelude.{◌≡◌, ◌≤◌, ◌⊎◌, ℕ, ◌+◌, List, ◌++◌, [], drop, length, Option, Some}
use Rattle.ei_spec.specs.Piece.{Piece}
use Rattle.ei_backend.specs.Outside.{SourceView}

-- the source told these pieces, and has those left
pub record AreTold (before after : SourceView) (told : List Piece) (left : Option (List Piece)) : Type 0 where
  pub told_is : before.left ≡ Some told
  pub left_is : left ≡ after.left

-- The source gave the first of these pieces, whatever it tells, and the others are left: any, but none where it came to its end.
pub record BeginAsGiven (before after : SourceView) (ended : Type 0) (told : List Piece) (left : Option (List Piece)) : Type 0 where
  pub came : List Piece
  pub more : List Piece
  pub gave : after.given ≡ before.given ++ came
  pub told_is : told ≡ came ++ more
  pub left_is : left ≡ Some more
  pub ends : ended → more ≡ []

-- the pieces over the source, and those left
abbrev pub ArePieces : SourceView → SourceView → Type 0 → List Piece → Option (List Piece) → Type 0
ArePieces before after ended told left = AreTold before after told left ⊎ BeginAsGiven before after ended told left

-- what is so of them, told or given
abbrev pub ForPieces : Type 0 → SourceView → SourceView → (List Piece → Option (List Piece) → Type 0) → Type 0
ForPieces ended old new P = (told : List Piece) (left : Option (List Piece)) → ArePieces old new ended told left → P told left

-- The source gave some pieces more; of those that it told they are the first, and the others are left. It was asked once for each, and
-- once more at most.
pub record GavePieces (before after : SourceView) : Type 0 where
  pub came : List Piece
  pub gave : after.given ≡ before.given ++ came
  pub told : (told : List Piece) → before.left ≡ Some told → (rest : List Piece) × (after.left ≡ Some rest) × (told ≡ came ++ rest)
  pub asked : after.asked ≤ before.asked + length came + 1

-- of the pieces told, so many were taken
pub record TookPieces (told : List Piece) (left : Option (List Piece)) (k : ℕ) : Type 0 where
  pub within : k ≤ length told
  pub left_is : left ≡ Some (drop k told)
