-- What a connection has in its phase.
use Rattle.std.specs.Prelude.{ℕ, List, [], ◌∷◌, Option, Some, None, false}
use Rattle.ei_spec.specs.Piece.{Piece}
use Rattle.ei_backend.specs.Backend.{BackendView, new_backend, unsent_of}
use Rattle.ei_backend.specs.Outgoing.{nothing}
use Rattle.ei_backend.specs.Table.{new_table, first_server_id}
use Rattle.ei_session.specs.Replies.{greeting_to}
use Rattle.ei_handshake.specs.Handshaker.{untold, sends}
use Rattle.ei_request.specs.Connection.{ConnectionView}
use Rattle.ei_request.specs.Converter.{ConverterView}
use Rattle.ei_request.specs.declared.event.EisRequest.{EisRequest}
use Rattle.reis_eis.specs.declared.shaking.Shaking.{Shaking}
use Rattle.reis_eis.specs.declared.phase.Phase.{Phase}
use Rattle.reis_eis.specs.declared.phase.Phase.TheVariants as phase

-- it is one of the two phases, and not between them
abbrev pub IsWhole : Phase → Type 0
IsWhole phase.Between = ⊥
IsWhole p = Unit {0}

-- a handshake with that endpoint
abbrev pub shaking_with : Shaking → BackendView → Shaking
shaking_with s b = record s { context = b }

-- a converter whose connection has that endpoint
abbrev pub with_ctx : ConverterView → BackendView → ConverterView
with_ctx c b = record c { handle = record c.handle { ctx = b } }

-- the endpoint
abbrev pub context_in : Phase → Option BackendView
context_in (phase.Shaking s) = Some s.context
context_in (phase.Standing c) = Some c.handle.ctx
context_in phase.Between = None

-- the phase with that endpoint
abbrev pub with_context : Phase → BackendView → Phase
with_context (phase.Shaking s) b = phase.Shaking (shaking_with s b)
with_context (phase.Standing c) b = phase.Standing (with_ctx c b)
with_context phase.Between b = phase.Between

-- the bytes that came and are not read yet
abbrev pub unread_of : Option BackendView → List ℕ
unread_of None = []
unread_of (Some b) = b.unread

-- what waits to be written
abbrev pub waiting_of : Option BackendView → Piece
waiting_of None = nothing
waiting_of (Some b) = unsent_of b

abbrev pub unsent_in : Phase → Piece
unsent_in p = waiting_of (context_in p)

-- the connection, behind the handshake
abbrev pub handle_in : Phase → Option ConnectionView
handle_in (phase.Standing c) = Some c.handle
handle_in p = None

-- the requests that wait
abbrev pub queue_in : Phase → List EisRequest
queue_in (phase.Standing c) = c.queue
queue_in p = []

-- the phase in which these wait
abbrev pub with_queue : Phase → List EisRequest → Phase
with_queue (phase.Standing c) queue = phase.Standing (record c { queue = queue })
with_queue p queue = p

-- a new handshake, whose greeting waits to be written
abbrev pub greeted : ℕ → Shaking
greeted serial = record {
  context = sends (new_backend (new_table false first_server_id)) (greeting_to 0 ∷ []);
  handshaker = untold serial;
  initial_serial = serial;
}
