-- What the calls of a source, a sink and a clock do.
use Rattle.std.specs.Prelude.{◌≡◌, ◌<◌, ◌≤◌, ℕ, zero, suc, ◌+◌, ◌-◌, ◌^◌, min, Bool, true, false, List, [], ◌∷◌, ◌++◌, length, take, drop}
use Rattle.std.specs.Prelude.{slice_get, slice_index}
use Rattle.std.specs.Prelude.{Option, Some, Result, Ok, Err, OnOk, OnErr, IsErrOf}
pub use Rattle.ei_spec.specs.Piece.{Piece}
use Rattle.ei_spec.specs.declared.handle.Handle.{Handle}
use Rattle.ei_backend.specs.declared.outside.Fault.{Fault}
use Rattle.ei_backend.specs.declared.outside.PutError.{PutError}
use Rattle.ei_backend.specs.declared.outside.PutError.TheVariants as put_errors
use Rattle.ei_backend.specs.declared.outside.Taken.{Taken}
use Rattle.ei_backend.specs.declared.outside.LastAnswer.{LastAnswer}
use Rattle.ei_backend.specs.declared.outside.LastAnswer.TheVariants as answers
use Rattle.ei_spec.specs.declared.limits.TheConstants.{MOST_PIECE_BYTES, MOST_PIECE_HANDLES}

-- a count went up, or stands at its last value
abbrev pub Rose : ℕ → ℕ → Type 0
Rose before now = min (before + 1) (2 ^ 64 - 1) ≤ now

-- a call was counted: once, or not at the last value
pub record CountsOne (before now : ℕ) : Type 0 where
  pub rose : Rose before now
  pub once : now ≤ before + 1

-- the count of faults has not fallen: it goes up with a fault, and with no other answer
pub record HasCause {T : Type 0} (before now : ℕ) (result : Result T Fault) : Type 0 where
  pub later : before ≤ now
  pub failed : OnErr result (Rose before now)
  pub kept : OnOk result (now ≡ before)

-- the same of a sink, which may also want memory
pub record HasPutCause {T : Type 0} (before now : ℕ) (result : Result T PutError) : Type 0 where
  pub later : before ≤ now
  pub failed : IsErrOf result put_errors.Fault → Rose before now
  pub kept : OnOk result (now ≡ before)
  pub kept_wanting : IsErrOf result put_errors.NoMemory → now ≡ before

-- the count of wants of memory has not fallen: it goes up with such a want, and with no other answer
pub record HasPutWant {T : Type 0} (before now : ℕ) (result : Result T PutError) : Type 0 where
  pub later : before ≤ now
  pub wanted : IsErrOf result put_errors.NoMemory → Rose before now
  pub kept : OnOk result (now ≡ before)
  pub kept_failing : IsErrOf result put_errors.Fault → now ≡ before

-- at most the bytes and handles of a piece, and no handle without a byte
pub record IsPieceSize (taken : Taken) : Type 0 where
  pub bytes : taken.bytes ≤ MOST_PIECE_BYTES
  pub handles : taken.handles ≤ MOST_PIECE_HANDLES
  pub none : taken.bytes ≡ 0 → taken.handles ≡ 0

-- ---- what one says of itself

-- a source: the pieces that it has left, where it tells them, and those that it gave so far, one after another; how often it
-- failed, and how often it was asked; and what it answered last
pub record SourceView : Type 0 where
  pub left : Option (List Piece)
  pub given : List Piece
  pub faults : ℕ
  pub asked : ℕ
  pub last : LastAnswer

-- a sink: what it took, as one piece, where it tells it; what was put to it at each call, one after another, taken or not, where it
-- tells that; how often it failed, and how often it wanted memory
pub record SinkView : Type 0 where
  pub taken : Option Piece
  pub puts : Option (List Piece)
  pub faults : ℕ
  pub wants : ℕ

-- a clock: the readings that it has left, where it tells them, and how often it failed
pub record ClockView : Type 0 where
  pub left : Option (List ℕ)
  pub faults : ℕ

-- ---- a source's take

-- the piece that was handed out
abbrev pub piece_of : Taken → List ℕ → List Handle → Piece
piece_of taken bytes handles = record { bytes = take taken.bytes bytes; handles = take taken.handles handles }

-- the first of these pieces was handed out, or there was none
pub record HandsOut (pieces : List Piece) (new : Option (List Piece)) (taken : Taken) (bytes : List ℕ) (handles : List Handle) : Type 0 where
  pub left : new ≡ Some (drop 1 pieces)
  pub ends : taken.bytes ≡ 0 → pieces ≡ []
  pub piece : 0 < taken.bytes → slice_get pieces 0 ≡ Some (piece_of taken bytes handles)

-- where a source told its pieces, it handed out the first; a fault leaves them
abbrev pub TakesTold : Option (List Piece) → Option (List Piece) → Result Taken Fault → List ℕ → List Handle → Type 0
TakesTold old new (Ok taken) bytes handles = (pieces : List Piece) → old ≡ Some pieces → HandsOut pieces new taken bytes handles
TakesTold old new (Err e) bytes handles = (pieces : List Piece) → old ≡ Some pieces → new ≡ Some pieces

-- these pieces, with one of so many bytes behind them; no byte is no piece
abbrev pub given_with : List Piece → ℕ → Piece → List Piece
given_with given zero piece = given
given_with given (suc n) piece = given ++ piece ∷ []

-- told or not, a source has given what it gave before, and then the piece that it handed out; its end and a fault give none
abbrev pub GivesPiece : List Piece → List Piece → Result Taken Fault → List ℕ → List Handle → Type 0
GivesPiece old new (Ok taken) bytes handles = new ≡ given_with old taken.bytes (piece_of taken bytes handles)
GivesPiece old new (Err e) bytes handles = new ≡ old

-- what so many bytes mean to a source or an input
abbrev pub answer_at : ℕ → LastAnswer
answer_at zero = answers.End
answer_at (suc n) = answers.Piece

-- the answer that a source keeps after a take
abbrev pub last_of : Result Taken Fault → LastAnswer
last_of (Err e) = answers.Fault
last_of (Ok taken) = answer_at taken.bytes

-- what a take does to what the source says
pub record IsTake (old new : SourceView) (result : Result Taken Fault) (bytes : List ℕ) (handles : List Handle) : Type 0 where
  pub pieces : TakesTold old.left new.left result bytes handles
  pub given : GivesPiece old.given new.given result bytes handles
  pub cause : HasCause old.faults new.faults result
  pub asked : CountsOne old.asked new.asked
  pub last : new.last ≡ last_of result

-- ---- a sink's put

-- what is held, with more behind it
abbrev pub with_more : List ℕ → List Handle → Piece → Piece
with_more bytes handles held = record { bytes = held.bytes ++ bytes; handles = held.handles ++ handles }

-- where a sink told what it held, it has taken the first n bytes and all the handles; an error leaves it
abbrev pub Puts : Option Piece → Option Piece → Result ℕ PutError → List ℕ → List Handle → Type 0
Puts old new (Ok n) bytes handles = (held : Piece) → old ≡ Some held → new ≡ Some (with_more (take n bytes) handles held)
Puts old new (Err e) bytes handles = (held : Piece) → old ≡ Some held → new ≡ Some held

-- what a put does to what the sink says
pub record IsPut (old new : SinkView) (result : Result ℕ PutError) (bytes : List ℕ) (handles : List Handle) : Type 0 where
  pub taken : Puts old.taken new.taken result bytes handles
  pub puts : (puts : List Piece) → old.puts ≡ Some puts → new.puts ≡ Some (puts ++ record { bytes = bytes; handles = handles } ∷ [])
  pub cause : HasPutCause old.faults new.faults result
  pub want : HasPutWant old.wants new.wants result

-- at least one byte of some
pub record IsPutSize (n : ℕ) (bytes : List ℕ) : Type 0 where
  pub at_most : n ≤ length bytes
  pub at_least : 0 < length bytes → 0 < n

-- whether the last answer was the end
abbrev pub is_end : LastAnswer → Bool
is_end answers.End = true
is_end answer = false

-- ---- a clock's reading

-- the first reading, or 0 behind the last
pub record ReadsClock (readings : List ℕ) (new : Option (List ℕ)) (reading : ℕ) : Type 0 where
  pub is : reading ≡ slice_index readings 0
  pub left : new ≡ Some (drop 1 readings)

-- what a reading does to what the clock says
pub record IsReading (old new : ClockView) (reading : ℕ) : Type 0 where
  pub told : (readings : List ℕ) → old.left ≡ Some readings → ReadsClock readings new.left reading
  pub faults : old.faults ≤ new.faults
