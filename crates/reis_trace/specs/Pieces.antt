-- Bytes in one piece.
use Rattle.std.specs.Prelude.{ℕ, ◌-◌, ◌^◌, List, [], ◌∷◌, Some}
use Rattle.ei_spec.specs.Piece.{Piece}
use Rattle.ei_backend.specs.Outside.{SourceView}
use Rattle.ei_backend.specs.declared.outside.LastAnswer.{LastAnswer}

-- the bytes, with no handle
abbrev pub bytes_alone : List ℕ → Piece
bytes_alone bytes = record { bytes = bytes; handles = [] }

-- the piece that these bytes are, if there are any
abbrev pub piece_left : List ℕ → List Piece
piece_left [] = []
piece_left (byte ∷ bytes) = bytes_alone (byte ∷ bytes) ∷ []

-- a source that has these bytes left, never fails and doesn't count its calls
abbrev pub piece_view : List ℕ → List Piece → LastAnswer → SourceView
piece_view bytes given last = record { left = Some (piece_left bytes); given = given; faults = 0; asked = 2 ^ 64 - 1; last = last }
