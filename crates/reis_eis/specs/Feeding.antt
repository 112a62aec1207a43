-- What a piece does.
use Rattle.std.specs.Prelude.{◌≡◌, ◌⊎◌, ℕ, zero, suc, ◌+◌, ◌<◌, true, List, [], ◌∷◌, ◌++◌, length, Option, Some, None}
use Rattle.ei_spec.specs.declared.limits.TheConstants.{MOST_PIECE_BYTES}
use Rattle.ei_spec.specs.Piece.{Piece}
use Rattle.ei_wire.specs.declared.error.ReadError.{ReadError}
use Rattle.ei_wire.specs.declared.error.ReadError.TheVariants as read_error
use Rattle.ei_types.specs.Errors.{error_of_read}
use Rattle.ei_types.specs.declared.error.Error.TheVariants as error
use Rattle.ei_backend.specs.Backend.{BackendView, with_piece, with_ring, closed_of}
use Rattle.ei_backend.specs.Incoming.{Fits, Overflows}
use Rattle.reis_eis.specs.declared.ending.Ending.{Ending}
use Rattle.reis_eis.specs.declared.ending.Ending.TheVariants as ending
use Rattle.reis_eis.specs.declared.notice.Notice.{Notice}
use Rattle.reis_eis.specs.declared.step.Step.{Step}
use Rattle.reis_eis.specs.declared.step.Step.TheVariants as step
use Rattle.reis_eis.specs.declared.phase.Phase.{Phase}
use Rattle.reis_eis.specs.declared.phase.Phase.TheVariants as phase
use Rattle.reis_eis.specs.View.{EisView}
use Rattle.reis_eis.specs.Words.{context_in, with_context}
use Rattle.reis_eis.specs.Handling.{Steps}

-- what a message that was handled tells waits behind what waited
abbrev pub TellsBy : Step → List Notice → List Notice → Type 0
TellsBy step.Handled old new = new ≡ old
TellsBy (step.Noted told) old new = new ≡ old ++ told ∷ []
TellsBy s old new = ⊥

-- One more message was handled, behind those before it.
pub record HandlesOne (time : ℕ) (before : Phase → List Notice → Type 0) (new : Phase) (notices : List Notice) : Type 0 where
  pub reached : Phase
  pub waiting : List Notice
  pub handled : before reached waiting
  pub by : Step
  pub steps : Steps time reached by new
  pub tells : TellsBy by waiting notices

-- so many messages were handled, one after another, and none of them ended the connection; what they told waits behind these notices
abbrev pub HandlesSome : ℕ → ℕ → Phase → List Notice → Phase → List Notice → Type 0
HandlesSome zero time old waiting new notices = (new ≡ old) × (notices ≡ waiting)
HandlesSome (suc n) time old waiting new notices = HandlesOne time (HandlesSome n time old waiting) new notices

-- how the connection ended by the last step, where it did; there is none behind a message that was only handled
abbrev pub EndsBy : Step → Option Ending → Type 0
EndsBy step.Waiting how = how ≡ None
EndsBy step.Handled how = ⊥
EndsBy (step.Noted told) how = ⊥
EndsBy (step.Ended e) how = how ≡ Some e

-- Every whole message was handled, one after another, up to one that ended the connection, where one did; what they told waits behind what
-- waited.
pub record HandlesAll (time : ℕ) (old : Phase) (waiting : List Notice) (new : Phase) (notices : List Notice) (how : Option Ending) : Type 0 where
  pub count : ℕ
  pub reached : Phase
  pub handled : HandlesSome count time old waiting reached notices
  pub last : Step
  pub steps : Steps time reached last new
  pub ends : EndsBy last how

-- The piece is taken, and every message that it makes whole is handled.
pub record TakesPiece (piece : Piece) (time : ℕ) (b : BackendView) (old new : EisView) : Type 0 where
  pub size : ℕ
  pub fits : Fits size b.handles piece
  pub handles : HandlesAll time (with_context old.phase (with_piece piece b)) old.notices new.phase new.notices new.ending

-- why a piece isn't taken, and what becomes of the endpoint: with it more handles would be unread than may, memory ran out for the ring, which has
-- to grow, or nothing more is read
abbrev pub LeavesPiece : ReadError → Piece → BackendView → BackendView → Type 0
LeavesPiece read_error.HandleLimit piece old new = Overflows old.handles piece × (new ≡ closed_of (with_ring old))
LeavesPiece read_error.NoMemory piece old new = (old.capacity < length old.unread + MOST_PIECE_BYTES) × (new ≡ old)
LeavesPiece read_error.UnexpectedEof piece old new = (old.closed ≡ true) × (new ≡ old)
LeavesPiece read_error.ReadFault piece old new = ⊥

-- The piece isn't taken, and the connection ends.
pub record RefusesPiece (piece : Piece) (b : BackendView) (old new : EisView) : Type 0 where
  pub why : ReadError
  pub left : BackendView
  pub leaves : LeavesPiece why piece b left
  pub is : new ≡ record old { phase = with_context old.phase left; ending = Some (ending.Refused (error_of_read why)) }

-- what a piece does to a connection that goes on
abbrev pub FeedsTo : Piece → ℕ → Option BackendView → EisView → EisView → Type 0
FeedsTo piece time None old new = ⊥
FeedsTo piece time (Some b) old new = TakesPiece piece time b old new ⊎ RefusesPiece piece b old new

abbrev pub Feeds : Piece → ℕ → EisView → EisView → Type 0
Feeds piece time old new = FeedsTo piece time (context_in old.phase) old new

-- how a connection ends where no more comes: behind the handshake, and before its end
abbrev pub end_of : Phase → Ending
end_of (phase.Standing c) = ending.End
end_of p = ending.Refused error.UnexpectedEof
