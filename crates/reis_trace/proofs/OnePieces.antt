-- A client that reads of a source of one piece.
use Rattle.std.proofs.Common.{◌≡◌, ℕ, ◌<◌, List, [], ◌∷◌, length, Some, Ok, Err, refl, sym, ap, ◌∙◌, arith}
use Rattle.std.specs.Prelude.{slice_get}
use Rattle.ei_spec.specs.Piece.{Piece}
use Rattle.ei_session.proofs.Choices.{some_is}
use Rattle.ei_wire.specs.declared.error.ReadError.TheVariants as read_error
use Rattle.ei_backend.specs.Outside.{SourceView}
use Rattle.ei_backend.specs.declared.outside.LastAnswer.{LastAnswer}
use Rattle.ei_backend.specs.Backend.{BackendView, ReadsOn, with_piece}
use Rattle.reis_trace.specs.Pieces.{bytes_alone, piece_left, piece_view}

one_piece : (bytes : List ℕ) → 0 < length bytes → piece_left bytes ≡ bytes_alone bytes ∷ []
one_piece [] lt = absurd (omega (arith, lt))
one_piece (b ∷ bytes) lt = refl

the_piece : (bytes : List ℕ) (piece : Piece) → 0 < length bytes → slice_get (piece_left bytes) 0 ≡ Some piece → bytes_alone bytes ≡ piece
the_piece bytes piece lt h = some_is (bytes_alone bytes) piece (sym (ap (λ (l : List Piece). slice_get l 0) (one_piece bytes lt)) ∙ h)

pub came : (bytes : List ℕ) (n : ℕ) (given : List Piece) (last : LastAnswer) (after : SourceView) (old new : BackendView) → 0 < length bytes → ReadsOn (piece_view bytes given last) after (Ok n) old new → new ≡ with_piece (bytes_alone bytes) old
came bytes n given last after old new lt h = h.3 ∙ ap (λ (p : Piece). with_piece p old) (sym (the_piece bytes h.0 lt (h.1.told _ refl).first))

pub no_end : (bytes : List ℕ) (given : List Piece) (last : LastAnswer) (after : SourceView) (old new : BackendView) → 0 < length bytes → ReadsOn (piece_view bytes given last) after (Err read_error.UnexpectedEof) old new → ⊥
no_end bytes given last after old new lt h = let e : bytes_alone bytes ∷ [] ≡ [] = sym (one_piece bytes lt) ∙ (h.0.told _ refl).0 in cc
