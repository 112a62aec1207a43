-- What a script has yet to say, and the stream as its source shows it.
use Rattle.std.specs.Prelude.{ℕ, ◌+◌, ◌^◌, ◌≤◌, ◌-◌, true, false, Some, List, [], ◌∷◌, ◌++◌}
use Rattle.ei_spec.specs.Message.{Raw}
use Rattle.ei_spec.specs.Piece.{Piece}
use Rattle.ei_backend.specs.declared.outside.LastAnswer.{LastAnswer}
use Rattle.ei_backend.specs.Outside.{SourceView}
use Rattle.reis_demo.specs.Generated.{groups_from, disconnect_message, cut}
use Rattle.reis_demo.specs.declared.script.Script.{Script}

-- the messages that a script has yet to say
unfoldable pub unsaid : Script → List Raw
unsaid s = elim s.ended [ true ↦ [] | false ↦ groups_from s.groups s.time s.number ++ (disconnect_message ∷ []) ]

-- the times of the groups that are left fit four bytes
abbrev pub IsTimed : Script → Type 0
IsTimed s = s.time + s.groups ≤ 2 ^ 32

-- the bytes of the stream that are left, the pieces given so far, and what the source answered last
pub record StreamView : Type 0 where
  pub left : List ℕ
  pub given : List Piece
  pub last : LastAnswer

-- what the source says of itself: it tells the pieces that are left, never fails, and doesn't count its calls
abbrev pub stream_of : StreamView → SourceView
stream_of s = record { left = Some (cut 4096 s.left); given = s.given; faults = 0; asked = 2 ^ 64 - 1; last = s.last }
