-- What happens in turn between two events that a client is given: pieces come, and the messages in them are read. A list of turns has
-- the newest first.
use Rattle.std.specs.Prelude.{◌≡◌, ◌<◌, ℕ, false, List, [], ◌∷◌, ◌++◌, length, Option, Some, None, Ok, true}
use Rattle.std.specs.Ordering.{nat_cmp}
use Rattle.std.specs.FinMap as finite
use Rattle.ei_spec.specs.Interface.{ObjectView}
use Rattle.ei_spec.specs.Piece.{Piece}
use Rattle.ei_types.specs.declared.error.EventError.{EventError}
use Rattle.ei_backend.specs.Backend.{BackendView, FrontAnswer, Waits, Gone, Message, next, removed}
use Rattle.ei_client.specs.declared.event.Event.{Event}
use Rattle.ei_client.specs.Event.{target_of, opcode_of, values_of}
use Rattle.ei_greeting.specs.Opening.{with_piece, overflows}
use Rattle.ei_following.specs.Core.{refused}
use Rattle.ei_event.specs.Typed.{said_of}
use Rattle.ei_event.specs.Kept.{KeptView}
use Rattle.ei_event.specs.Core.{core_of}
use Rattle.ei_event.specs.Handles.{after}
use Rattle.ei_event.specs.Converter.{ping_in, callback_in, without_called}

-- an endpoint, what the converter of its events keeps, and the handlers that wait
pub record Standing (H : Type 0) : Type 0 where
  pub endpoint : BackendView
  pub kept : KeptView
  pub waiting : finite.FinMap nat_cmp H

-- a piece comes; a message to no object is skipped; or an event is taken, at this time, if it makes a frame
pub data Turn : Type 0 where
  Comes : (piece : Piece) → Turn
  Skips : Turn
  Hears : (event : Event) → (time : ℕ) → Turn

-- ---- the message at the front

abbrev pub front_at : {H : Type 0} → Standing H → FrontAnswer
front_at s = (next true s.endpoint).0

-- the endpoint behind it
abbrev pub behind_front : {H : Type 0} → Standing H → BackendView
behind_front s = (next true s.endpoint).1

-- it is this event
abbrev pub IsEvent : {H : Type 0} → Standing H → Event → Type 0
IsEvent s e = front_at s ≡ Message (target_of e) (opcode_of e) (values_of e)

-- why the converter refuses an event, if it does
abbrev pub refusal_at : {H : Type 0} → Standing H → Event → Option EventError
refusal_at s e = refused (core_of s.kept) (said_of e)

-- no message is whole, and no event is queued
abbrev pub IsIdle : {H : Type 0} → Standing H → Type 0
IsIdle s = (front_at s ≡ Waits) × (s.kept.queue ≡ [])

-- ---- what stands behind a turn

-- a ping that an event announces is answered, and gone then
abbrev pub without_ping : Option ObjectView → BackendView → BackendView
without_ping None b = b
without_ping (Some ping) b = removed b ping.id

abbrev pub by_turn : {H : Type 0} → Standing H → Turn → Standing H
by_turn s (Comes piece) = record s { endpoint = with_piece s.endpoint piece }
by_turn s Skips = record s { endpoint = behind_front s }
by_turn s (Hears e time) = record {
  endpoint = without_ping (ping_in e) (behind_front s);
  kept = after s.kept e time;
  waiting = without_called (callback_in e) (Ok tt) s.waiting;
}

-- what stands behind these turns, but for what is unsent
abbrev pub standing_at : {H : Type 0} → Standing H → List Turn → Standing H
standing_at s [] = s
standing_at s (t ∷ before) = by_turn (standing_at s before) t

-- the pieces that came, the oldest first
abbrev pub pieces_of : List Turn → List Piece
pieces_of [] = []
pieces_of (Comes piece ∷ before) = pieces_of before ++ piece ∷ []
pieces_of (t ∷ before) = pieces_of before

-- ---- which turns there are

-- Where so many pieces came, and so many may come, this may be next: a piece comes only where no message is whole and no event is queued.
abbrev pub MayBe : {H : Type 0} → ℕ → ℕ → Standing H → Turn → Type 0
MayBe most came s (Comes piece) = IsIdle s × (came < most) × (s.endpoint.closed ≡ false) × (overflows s.endpoint piece ≡ false)
MayBe most came s Skips = (id : ℕ) × (front_at s ≡ Gone id)
MayBe most came s (Hears e time) = IsEvent s e × (refusal_at s e ≡ None)

-- each of these turns may be where it is; and there is none where an event is queued at the beginning
abbrev pub AreTurns : {H : Type 0} → ℕ → Standing H → List Turn → Type 0
AreTurns most s [] = Unit {0}
AreTurns most s (t ∷ before) = (s.kept.queue ≡ []) × AreTurns most s before × MayBe most (length (pieces_of before)) (standing_at s before) t
