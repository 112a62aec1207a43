-- What a call for a client's next event answers, sends and leaves, over the pieces of a source.
use Rattle.std.specs.Prelude.{◌≡◌, ◌<◌, ℕ, Bool, false, List, ◌++◌, length, Option, Some, None, Result, Ok, Err}
use Rattle.ei_spec.specs.Piece.{Piece}
use Rattle.ei_types.specs.declared.error.Error.{Error}
use Rattle.ei_types.specs.declared.error.Error.TheVariants as error
use Rattle.ei_backend.specs.Pieces.{TookPieces}
use Rattle.ei_event.specs.declared.event.EiEvent.{EiEvent}
use Rattle.ei_iterator.specs.Turns.{Turn, IsIdle, standing_at, pieces_of, AreTurns}
use Rattle.ei_iterator.specs.Next.{Trouble, Answer, Gives, Ends, PieceLimit, HandleLimit, Fails, Next, NextOver}
use Rattle.ei_iterator.specs.Around.{Around, standing_of, StandsAs, Did, SendsAll}
use Rattle.ei_iterator.specs.Steps.{CutsShort, FailsToSend, StandsOrLost, trouble_of}

-- what the call answers
abbrev pub Answered : Type 0
Answered = Option (Result EiEvent Error)

-- no event, where the pieces came to their end
abbrev pub answered : Result EiEvent Error → Answered
answered (Err error.UnexpectedEof) = None
answered result = Some result

-- the source of an endpoint that wasn't closed came to its end
abbrev pub CameToEnd : Bool → Answered → Type 0
CameToEnd closed result = (closed ≡ false) × (result ≡ None)

-- The definitions say this answer, and so it stands: the pieces that the answer takes were taken.
pub record Decides {H : Type 0} (may : H → ℕ → ℕ → Type 0) (most : ℕ) (told : List Piece) (left : Option (List Piece)) (answer : Answer) (old new : Around H) : Type 0 where
  pub turns : List Turn
  pub next : Next H
  pub is : NextOver most (standing_of old) told turns next
  pub answer_is : next.answer ≡ answer
  pub stands : StandsAs next.left new
  pub did : Did may old turns new
  pub sends : SendsAll old turns new
  pub took : TookPieces told left next.taken

-- Where the source failed, a piece was due.
pub record WasDue {H : Type 0} (may : H → ℕ → ℕ → Type 0) (most : ℕ) (told : List Piece) (left : Option (List Piece)) (old new : Around H) : Type 0 where
  pub turns : List Turn
  pub are : AreTurns most (standing_of old) turns
  pub more : List Piece
  pub pieces_are : told ≡ pieces_of turns ++ more
  pub idle : IsIdle (standing_at (standing_of old) turns)
  pub few : length (pieces_of turns) < most
  pub stands : StandsAs (standing_at (standing_of old) turns) new
  pub did : Did may old turns new
  pub sends : SendsAll old turns new
  pub took : TookPieces told left (length (pieces_of turns))

-- Where the sink failed or memory ran out, it was cut short so behind some turns.
pub record WasCut (told : List Piece) (left : Option (List Piece)) (Cuts : List Turn → Type 0) : Type 0 where
  pub turns : List Turn
  pub more : List Piece
  pub pieces_are : told ≡ pieces_of turns ++ more
  pub cut : Cuts turns
  pub took : TookPieces told left (length (pieces_of turns))

abbrev pub DecidesBy : {H : Type 0} → (H → ℕ → ℕ → Type 0) → ℕ → List Piece → Option (List Piece) → Option Trouble → Around H → Around H → Type 0
DecidesBy may most told left None old new = ⊥
DecidesBy may most told left (Some trouble) old new = Decides may most told left (Fails trouble) old new

-- Over these pieces, of which those are left, the call did what the definitions say; the sink fails only behind an event that was taken,
-- and a message is lost only where memory ran out as its event was handled. No other error comes.
abbrev pub Nexts : {H : Type 0} → (H → ℕ → ℕ → Type 0) → ℕ → List Piece → Option (List Piece) → Answered → Around H → Around H → Type 0
Nexts may most told left None old new = Decides may most told left Ends old new
Nexts may most told left (Some (Ok event)) old new = Decides may most told left (Gives event) old new
Nexts may most told left (Some (Err error.PieceLimit)) old new = Decides may most told left PieceLimit old new
Nexts may most told left (Some (Err error.HandleLimit)) old new = Decides may most told left HandleLimit old new
Nexts may most told left (Some (Err error.ReadFault)) old new = WasDue may most told left old new
Nexts may most told left (Some (Err error.WriteFault)) old new = WasCut told left (λ turns. FailsToSend may most old turns new)
Nexts may most told left (Some (Err error.NoMemory)) old new = WasCut told left (λ turns. CutsShort may most old turns StandsOrLost new)
Nexts may most told left (Some (Err e)) old new = DecidesBy may most told left (trouble_of e) old new
