-- What a client traced of what it had, whatever comes behind it.
use Rattle.std.specs.Prelude.{◌≡◌, ◌<◌, Bool, true, false, List, [], ◌++◌, length, Option, Some, None, ℕ}
use Rattle.ei_backend.specs.Backend.{BackendView}
use Rattle.ei_backend.specs.declared.message.PendingRequestResult.{PendingRequestResult}
use Rattle.ei_backend.specs.declared.message.PendingRequestResult.TheVariants as pending
use Rattle.ei_client.specs.declared.event.Event.{Event}
use Rattle.ei_client.specs.Event.{target_of, opcode_of, values_of}
use Rattle.reis_trace.specs.Traced.{event_line, lines_read}

-- the line of an answer that is a message
abbrev pub answer_line : PendingRequestResult Event → Option (List ℕ)
answer_line (pending.Request event) = Some (event_line (target_of event).interface (target_of event).id (opcode_of event) (values_of event))
answer_line (pending.ParseError error) = None
answer_line (pending.InvalidObject id) = None

-- the line is behind the others, and there was one where the answer was a message
abbrev pub IsPushed : Option (List ℕ) → Bool → List ℕ → List ℕ → Type 0
IsPushed (Some line) true before after = after ≡ before ++ line
IsPushed None false before after = after ≡ before
IsPushed line is_message before after = ⊥

-- the lines so far, and then those that the client reads of its bytes and of what comes behind them
abbrev pub lines_with : List ℕ → BackendView → List ℕ → List ℕ
lines_with lines client more = lines ++ lines_read client.table (client.unread ++ more)

-- there may be more lines: they are those of what the client has left, and of what comes
pub record TracesOn (old new : BackendView) (before after : List ℕ) : Type 0 where
  pub lines : (more : List ℕ) → lines_with after new more ≡ lines_with before old more
  pub no_handles : new.handles ≡ []
  pub closed : new.closed ≡ old.closed

-- the next answer is traced: there is none yet, it is a message, or it is another
abbrev pub TracesNext : Option Bool → BackendView → BackendView → List ℕ → List ℕ → Type 0
TracesNext None old new before after = TracesOn old new before after × (lines_read new.table new.unread ≡ [])
TracesNext (Some true) old new before after = TracesOn old new before after × (length new.unread < length old.unread)
TracesNext (Some false) old new before after = (more : List ℕ) → after ≡ lines_with before old more

-- the lines are traced up to the first message that is not whole, or up to the first answer that is no message
abbrev pub IsTraced : Bool → BackendView → BackendView → List ℕ → List ℕ → Type 0
IsTraced true old new before after = TracesOn old new before after × (lines_read new.table new.unread ≡ [])
IsTraced false old new before after = (more : List ℕ) → after ≡ lines_with before old more
