-- What reading a piece does to a session.
use Rattle.std.specs.Prelude.{◌≡◌, ◌≤◌, ◌<◌, ℕ, ◌+◌, Bool, true, false, List, [], ◌∷◌, ◌++◌, length, Result, Ok, Err}
use Rattle.ei_spec.specs.declared.handle.Handle.{Handle}
use Rattle.ei_spec.specs.Message.{Raw}
use Rattle.ei_spec.specs.Piece.{Piece, stream, handle_count}
use Rattle.ei_session.specs.Setup.{Setup}
use Rattle.ei_session.specs.Served.{reading_of, accepted}
use Rattle.ei_backend.specs.Outside.{SourceView}
use Rattle.ei_backend.specs.Incoming.{Hands, HasNone, Keeps, Fits, Overflows}
use Rattle.ei_types.specs.Errors.{error_of_read}
use Rattle.ei_types.specs.declared.error.Error.{Error}
use Rattle.ei_types.specs.declared.error.Error.TheVariants as error
use Rattle.ei_wire.specs.declared.error.ReadError.{ReadError}
use Rattle.ei_wire.specs.declared.error.ReadError.TheVariants as read_error
use Rattle.ei_serve.specs.declared.phase.Phase.{Phase}
use Rattle.ei_serve.specs.declared.state.SessionState.{SessionState}
use Rattle.ei_serve.specs.Standing.{Stands, StandsAt, terms_of}
use Rattle.ei_spec.specs.declared.limits.TheConstants.{MOST_UNREAD_HANDLES}

-- what reading a piece does to a phase
abbrev pub ReadsPhase : Setup → List Raw → List ℕ → List ℕ → List Handle → Result ℕ ReadError → Phase → SourceView → SourceView → Type 0
ReadsPhase setup past times rest handles (Ok n) p old new = (piece : Piece) × Hands old piece new × Fits n handles piece × StandsAt setup past times (rest ++ piece.bytes) (handles ++ piece.handles) p
ReadsPhase setup past times rest handles (Err read_error.HandleLimit) p old new = (piece : Piece) × Hands old piece new × Overflows handles piece
ReadsPhase setup past times rest handles (Err read_error.UnexpectedEof) p old new = HasNone old new × StandsAt setup past times rest handles p
ReadsPhase setup past times rest handles (Err read_error.ReadFault) p old new = Keeps old new
ReadsPhase setup past times rest handles (Err read_error.NoMemory) p old new = Keeps old new

-- the pieces taken so far, and one more behind them
abbrev pub with_next : List Piece → Piece → List Piece
with_next pieces piece = pieces ++ piece ∷ []

-- the session took one more piece and has not looked at it
pub record Holds (setup : Setup) (pieces : List Piece) (times : List ℕ) (piece : Piece) (s : SessionState) : Type 0 where
  pub started : terms_of s.start.terms ≡ setup
  pub room : length pieces < setup.pieces
  pub unread : List Handle
  pub phase : StandsAt setup (accepted setup (stream pieces)) times ((reading_of setup (stream pieces)).rest ++ piece.bytes) unread s.phase
  pub handles : length unread ≡ handle_count (with_next pieces piece)
  pub few : handle_count (with_next pieces piece) ≤ MOST_UNREAD_HANDLES
  pub taken : s.taken ≡ length pieces + 1

-- whether a piece came, where no more may be taken or where one may
abbrev pub piece_came : Bool → Result ℕ ReadError → Result Bool Error
piece_came true (Ok n) = Err error.PieceLimit
piece_came false (Ok n) = Ok true
piece_came true (Err read_error.HandleLimit) = Err error.PieceLimit
piece_came full (Err read_error.UnexpectedEof) = Ok false
piece_came full (Err e) = Err (error_of_read e)

-- what taking a piece answers
abbrev pub TakesPiece : Setup → List Piece → List ℕ → SessionState → Result Bool Error → SessionState → SourceView → SourceView → Type 0
TakesPiece setup pieces times s (Ok true) t old new = (piece : Piece) × Hands old piece new × Holds setup pieces times piece t
TakesPiece setup pieces times s (Ok false) t old new = HasNone old new × Stands setup pieces times t
TakesPiece setup pieces times s (Err error.PieceLimit) t old new = (piece : Piece) × Hands old piece new × (setup.pieces ≤ length pieces)
TakesPiece setup pieces times s (Err error.HandleLimit) t old new = (piece : Piece) × Hands old piece new × (length pieces < setup.pieces) × (MOST_UNREAD_HANDLES < handle_count (with_next pieces piece))
TakesPiece setup pieces times s (Err error.ReadFault) t old new = Keeps old new
TakesPiece setup pieces times s (Err error.NoMemory) t old new = Keeps old new
TakesPiece setup pieces times s (Err e) t old new = ⊥
