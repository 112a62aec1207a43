-- A connection as a whole: a new one, and one of which bytes were written.
use Rattle.std.specs.Prelude.{ℕ, [], Option, Some, None}
use Rattle.ei_spec.specs.Piece.{Piece}
use Rattle.ei_backend.specs.Backend.{BackendView, with_unsent}
use Rattle.reis_eis.specs.declared.phase.Phase.{Phase}
use Rattle.reis_eis.specs.declared.phase.Phase.TheVariants as phase
use Rattle.reis_eis.specs.View.{EisView}
use Rattle.reis_eis.specs.Words.{context_in, with_context, greeted}

-- a new connection, whose greeting waits to be written
abbrev pub started : ℕ → EisView
started serial = record { phase = phase.Shaking (greeted serial); ending = None; notices = [] }

-- the phase in which this waits to be written
abbrev pub waits_in : Phase → Piece → Option BackendView → Phase
waits_in p waiting None = p
waits_in p waiting (Some b) = with_context p (with_unsent waiting b)

-- the connection in which it does
abbrev pub with_unsent_in : EisView → Piece → EisView
with_unsent_in e waiting = record e { phase = waits_in e.phase waiting (context_in e.phase) }
