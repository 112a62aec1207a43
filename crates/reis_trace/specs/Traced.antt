-- The replies of a server as lines, as a fresh client reads them.
use Rattle.std.specs.Prelude.{ℕ, suc, Bool, true, List, [], ◌∷◌, ◌++◌, length, reverse, Some, is_none, unwrap_or, if◌then◌else◌}
use Rattle.ei_spec.specs.Value.{Value}
use Rattle.ei_spec.specs.Interface.{Interface, Known, bytes_of}
use Rattle.ei_spec.specs.Message.{Raw}
use Rattle.ei_spec.specs.History.{occurs, joined}
use Rattle.ei_session.specs.Setup.{Setup}
use Rattle.ei_session.specs.Arguments.{row_args}
use Rattle.ei_session.specs.Events.{replies}
use Rattle.ei_session.specs.Told.{row_of, told, interface_of}
use Rattle.ei_backend.specs.Shown.{shown}
use Rattle.ei_backend.specs.Table.{TableView, new_table}
use Rattle.ei_backend.specs.Backend.{BackendView, FrontAnswer, Message, new_backend, next}
use Rattle.reis_trace.specs.TraceLine.{trace_text, commas, shown_text}

-- the line of an event that came to a client, with its newline
abbrev pub event_line : Interface → ℕ → ℕ → List Value → List ℕ
event_line interface id opcode values = trace_text true true (Some (bytes_of interface)) id opcode (commas shown_text (shown true interface opcode values)) ++ 10 ∷ []

-- a client with these objects, and with these bytes unread
abbrev pub client_with : TableView → List ℕ → BackendView
client_with objects bytes = record (new_backend objects) { unread = bytes }

-- the lines of this answer and of those that the client gives next, up to the first that is no message, and of so many at most
unfoldable pub lines_from : ℕ → FrontAnswer → BackendView → List ℕ
lines_from (suc n) (Message target opcode values) client = event_line target.interface target.id opcode values ++ lines_from n (next true client).0 (next true client).1
lines_from n answer client = []

-- the lines of the messages that a client with these objects reads in the bytes; each takes some, so there are no more of them than bytes
unfoldable pub lines_read : TableView → List ℕ → List ℕ
lines_read objects bytes = lines_from (length bytes) (next true (client_with objects bytes)).0 (next true (client_with objects bytes)).1

-- the lines of the messages that a fresh client reads in the bytes, up to the first answer that is no message
abbrev pub traced_bytes : List ℕ → List ℕ
traced_bytes bytes = lines_read (new_table true 1) bytes

-- ---- the replies to the messages of a client

-- whether the event is one of a callback: no earlier event announced its target, which is the client's own
abbrev pub is_done : List Raw → Raw → Bool
is_done earlier event = is_none (told earlier event.id)

-- the line of an event behind the earlier ones: its target is as one of these announced it, and its arguments are read by its row
abbrev pub told_line : List Raw → Raw → List ℕ
told_line earlier event =
    event_line (Known (interface_of earlier event)) event.id event.opcode (unwrap_or (row_args (row_of (interface_of earlier event) event) event) [])

-- the same before the first event of a callback, and nothing from there on
abbrev pub traced_line : List Raw → Raw → List ℕ
traced_line earlier event = if occurs is_done (event ∷ earlier) then [] else told_line earlier event

-- the trace of a session that handled these messages, the newest first: a line for each reply before the first `done` of a callback
unfoldable pub traced : Setup → List Raw → List ℕ
traced setup messages = joined traced_line (reverse (replies setup messages))
