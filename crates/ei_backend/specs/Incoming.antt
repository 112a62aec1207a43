-- What came and isn't read yet, and what one more piece does to it.
use Rattle.std.specs.Prelude.{◌≡◌, ℕ, ◌+◌, ◌<◌, ◌≤◌, List, [], ◌∷◌, ◌++◌, length, drop, slice_get, Option, Some, Result, Ok, Err}
use Rattle.ei_spec.specs.declared.handle.Handle.{Handle}
use Rattle.ei_spec.specs.Piece.{Piece}
use Rattle.ei_wire.specs.declared.error.ReadError.{ReadError}
use Rattle.ei_wire.specs.declared.error.ReadError.TheVariants as read_error
use Rattle.ei_backend.specs.Outside.{SourceView, CountsOne}
use Rattle.ei_backend.specs.declared.outside.LastAnswer.TheVariants as answers
use Rattle.ei_backend.specs.Ring.{first_capacity, grown}
use Rattle.ei_spec.specs.declared.limits.TheConstants.{MOST_PIECE_BYTES, MOST_PIECE_HANDLES, MOST_UNREAD_HANDLES}

-- the piece is the first of these, and the source has the others left
pub record IsFirst (pieces : List Piece) (left : Option (List Piece)) (piece : Piece) : Type 0 where
  pub first : slice_get pieces 0 ≡ Some piece
  pub left_is : left ≡ Some (drop 1 pieces)

-- the source was asked once and gave this piece: of the pieces that it told it is the first
pub record Hands (old : SourceView) (piece : Piece) (new : SourceView) : Type 0 where
  pub told : (pieces : List Piece) → old.left ≡ Some pieces → IsFirst pieces new.left piece
  pub given : new.given ≡ old.given ++ piece ∷ []
  pub asked : CountsOne old.asked new.asked
  pub last : new.last ≡ answers.Piece

-- it was asked once and said its end: of pieces that it told none was left
pub record HasNone (old new : SourceView) : Type 0 where
  pub told : (pieces : List Piece) → old.left ≡ Some pieces → (pieces ≡ []) × (new.left ≡ Some [])
  pub given : new.given ≡ old.given
  pub asked : CountsOne old.asked new.asked
  pub last : new.last ≡ answers.End

-- it keeps those that it told, and gave none: it was asked once, or not at all
pub record Keeps (old new : SourceView) : Type 0 where
  pub told : (pieces : List Piece) → old.left ≡ Some pieces → new.left ≡ Some pieces
  pub given : new.given ≡ old.given
  pub asked : new.asked ≤ old.asked + 1

-- a piece of n bytes, with whose handles no more are unread than may be
pub record Fits (n : ℕ) (unread : List Handle) (piece : Piece) : Type 0 where
  pub bytes : n ≡ length piece.bytes
  pub some : 0 < n
  pub most : n ≤ MOST_PIECE_BYTES
  pub most_handles : length piece.handles ≤ MOST_PIECE_HANDLES
  pub limit : length unread + length piece.handles ≤ MOST_UNREAD_HANDLES

-- a piece with whose handles more are unread than may be
pub record Overflows (unread : List Handle) (piece : Piece) : Type 0 where
  pub some : 0 < length piece.bytes
  pub most : length piece.bytes ≤ MOST_PIECE_BYTES
  pub most_handles : length piece.handles ≤ MOST_PIECE_HANDLES
  pub limit : MOST_UNREAD_HANDLES < length unread + length piece.handles

-- what is unread, and the bytes that its ring holds
pub record IncomingView : Type 0 where
  pub bytes : List ℕ
  pub handles : List Handle
  pub capacity : ℕ

-- nothing unread, in a new ring
abbrev pub none_unread : IncomingView
none_unread = record { bytes = []; handles = []; capacity = first_capacity }

-- what is unread, with room for one more piece
abbrev pub with_ring_room : IncomingView → IncomingView
with_ring_room i = record i { capacity = grown (length i.bytes) i.capacity }

-- what is unread, with one more piece behind it
abbrev pub with_piece : Piece → IncomingView → IncomingView
with_piece piece i = record { bytes = i.bytes ++ piece.bytes; handles = i.handles ++ piece.handles; capacity = grown (length i.bytes) i.capacity }

-- what reading a piece did to what is unread, and what the source said of it
abbrev pub ReadsIn : SourceView → SourceView → Result ℕ ReadError → IncomingView → IncomingView → Type 0
ReadsIn before after (Ok n) old new = (piece : Piece) × Hands before piece after × Fits n old.handles piece × (new ≡ with_piece piece old)
ReadsIn before after (Err read_error.HandleLimit) old new = (piece : Piece) × Hands before piece after × Overflows old.handles piece × (new ≡ with_ring_room old)
ReadsIn before after (Err read_error.UnexpectedEof) old new = HasNone before after × (new ≡ with_ring_room old)
ReadsIn before after (Err read_error.ReadFault) old new = Keeps before after × (new ≡ with_ring_room old)
ReadsIn before after (Err read_error.NoMemory) old new = Keeps before after × (new ≡ old)
