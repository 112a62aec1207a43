-- A piece that is lent, and what the source and the sink of a server say of themselves.
use Rattle.std.specs.Prelude.{ℕ, ◌-◌, ◌^◌, List, [], ◌∷◌, None, Some}
use Rattle.ei_spec.specs.declared.handle.Handle.{Handle}
use Rattle.ei_spec.specs.Piece.{Piece}
use Rattle.ei_backend.specs.Outside.{SourceView, SinkView}
use Rattle.ei_backend.specs.declared.outside.LastAnswer.{LastAnswer}

-- a piece of these bytes and handles; none where there is no byte
abbrev pub lent : List ℕ → List Handle → List Piece
lent [] handles = []
lent (b ∷ bytes) handles = record { bytes = b ∷ bytes; handles = handles } ∷ []

-- a source of these pieces, which never fails and doesn't count its calls
abbrev pub lent_view : List Piece → List Piece → LastAnswer → SourceView
lent_view left given last = record { left = Some left; given = given; faults = 0; asked = 2 ^ 64 - 1; last = last }

-- a sink in which these replies wait, which never fails, counts no want of memory, and doesn't tell what was put to it
abbrev pub replies_view : Piece → SinkView
replies_view waiting = record { taken = Some waiting; puts = None; faults = 0; wants = 2 ^ 64 - 1 }
