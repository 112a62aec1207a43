-- What is lent to the calls below: a piece, a time, and a sink that takes so many bytes.
use Rattle.std.specs.Prelude.{ℕ, ◌-◌, ◌^◌, Bool, true, false, List, [], ◌∷◌, None, Some}
use Rattle.ei_spec.specs.declared.handle.Handle.{Handle}
use Rattle.ei_spec.specs.Piece.{Piece}
use Rattle.ei_backend.specs.Outside.{SourceView, SinkView}
use Rattle.ei_backend.specs.declared.outside.LastAnswer.{LastAnswer}

-- a piece of these bytes and handles; none where there is no byte
abbrev pub lent : List ℕ → List Handle → List Piece
lent [] handles = []
lent (b ∷ bytes) handles = record { bytes = b ∷ bytes; handles = handles } ∷ []

-- a source of these pieces, which never fails and doesn't count its calls
abbrev pub lent_view : List Piece → List Piece → LastAnswer → SourceView
lent_view left given last = record { left = Some left; given = given; faults = 0; asked = 2 ^ 64 - 1; last = last }

-- the readings that are left of a time that is read once
abbrev pub readings_left : Bool → ℕ → List ℕ
readings_left true time = []
readings_left false time = time ∷ []

-- a sink that took this, and failed so often; it wants no memory, and doesn't tell what was put to it
abbrev pub written_view : Piece → ℕ → SinkView
written_view taken faults = record { taken = Some taken; puts = None; faults = faults; wants = 0 }
