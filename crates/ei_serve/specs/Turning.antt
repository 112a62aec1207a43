-- What a turn, and a whole session, answers.
use Rattle.std.specs.Prelude.{◌≡◌, ◌≤◌, ◌<◌, ◌⊎◌, ℕ, Bool, true, false, List, [], ◌++◌, length, Option, Some, None, Result, Ok, Err}
use Rattle.ei_spec.specs.declared.handle.Handle.{Handle}
use Rattle.ei_spec.specs.Message.{Raw}
use Rattle.ei_spec.specs.Piece.{Piece, stream, handle_count}
use Rattle.ei_spec.specs.Stream.{Waiting, Reading, read}
use Rattle.ei_session.specs.Setup.{Setup}
use Rattle.ei_session.specs.Refusals.{Refusal, judge}
use Rattle.ei_session.specs.Served.{Answer, Disconnect, End, UnexpectedEof, IdsExhausted, PieceLimit, HandleLimit, Refused, answer_at, session, accepted, reading_of}
use Rattle.ei_types.specs.declared.error.Error.{Error}
use Rattle.ei_types.specs.declared.error.Error.TheVariants as error
use Rattle.ei_serve.specs.declared.phase.Phase.{Phase}
use Rattle.ei_serve.specs.declared.state.SessionState.{SessionState}
use Rattle.ei_serve.specs.declared.session.Turn.{Turn}
use Rattle.ei_serve.specs.declared.session.Turn.TheVariants as turn
use Rattle.ei_serve.specs.Refusing.{refusal_of}
use Rattle.ei_serve.specs.Around.{Around}
use Rattle.ei_serve.specs.Standing.{Stands, StandsAt}
use Rattle.ei_serve.specs.Steps.{Goes, GoesInPart, Breaks, BreaksFull}
use Rattle.ei_serve.specs.Wanting.{IsWanted}
use Rattle.ei_backend.specs.Incoming.{Hands, HasNone, Keeps}
use Rattle.ei_serve.specs.Taking.{with_next}
use Rattle.ei_spec.specs.declared.limits.TheConstants.{MOST_UNREAD_HANDLES}

-- ---- the messages that are whole

-- the phase stands where the reading stopped
pub record StandsAfter (setup : Setup) (r : Reading Refusal) (times : List ℕ) (handles : List Handle) (p : Phase) : Type 0 where
  pub waits : r.stop ≡ Waiting
  pub phase : StandsAt setup r.past times r.rest handles p

-- every whole message was handled, and the phase goes on
pub record HandlesOn (setup : Setup) (past : List Raw) (times rest : List ℕ) (handles : List Handle) (p : Phase) (old new : Around) : Type 0 where
  pub used : List ℕ
  pub stands : StandsAfter setup (read (judge setup) past rest) (times ++ used) handles p
  pub goes : Goes setup past (read (judge setup) past rest).past times used old new

-- the messages up to one with which reading ends so were handled
pub record HandlesTo (setup : Setup) (past : List Raw) (times rest : List ℕ) (answer : Answer) (old new : Around) : Type 0 where
  pub used : List ℕ
  pub answer_is : answer_at (read (judge setup) past rest) ≡ answer
  pub goes : Goes setup past (read (judge setup) past rest).past times used old new

-- up to one that is refused so, where there is such a refusal
abbrev pub HandlesToRefusal : Setup → List Raw → List ℕ → List ℕ → Option Refusal → Around → Around → Type 0
HandlesToRefusal setup past times rest None old new = ⊥
HandlesToRefusal setup past times rest (Some refusal) old new = HandlesTo setup past times rest (Refused refusal) old new

-- how handling every whole message is refused
abbrev pub RefusesAll : Setup → List Raw → List ℕ → List ℕ → Error → Around → Around → Type 0
RefusesAll setup past times rest error.WriteFault old new = Breaks setup past times rest old new
RefusesAll setup past times rest error.NoMemory old new = BreaksFull setup past times rest old new
RefusesAll setup past times rest error.IdsExhausted old new = HandlesTo setup past times rest IdsExhausted old new
RefusesAll setup past times rest e old new = HandlesToRefusal setup past times rest (refusal_of e) old new

-- what handling every whole message answers
abbrev pub HandlesAll : Setup → List Raw → List ℕ → List ℕ → List Handle → Result Turn Error → Phase → Around → Around → Type 0
HandlesAll setup past times rest handles (Ok turn.GoOn) p old new = HandlesOn setup past times rest handles p old new
HandlesAll setup past times rest handles (Ok turn.Disconnect) p old new = HandlesTo setup past times rest Disconnect old new
HandlesAll setup past times rest handles (Ok turn.End) p old new = ⊥
HandlesAll setup past times rest handles (Err e) p old new = RefusesAll setup past times rest e old new

-- ---- a turn

-- the session is over with one more piece, with this answer
pub record Closes (setup : Setup) (pieces : List Piece) (times : List ℕ) (answer : Answer) (old new : Around) : Type 0 where
  pub piece : Piece
  pub used : List ℕ
  pub hands : Hands old.source piece new.source
  pub answer_is : (session setup (with_next pieces piece)).answer ≡ answer
  pub goes : Goes setup (accepted setup (stream pieces)) (session setup (with_next pieces piece)).handled times used old new

-- it is over with this refusal, where there is one
abbrev pub ClosesRefused : Setup → List Piece → List ℕ → Option Refusal → Around → Around → Type 0
ClosesRefused setup pieces times None old new = ⊥
ClosesRefused setup pieces times (Some refusal) old new = Closes setup pieces times (Refused refusal) old new

-- the session is over where the source ended
pub record Finds (setup : Setup) (pieces : List Piece) (times : List ℕ) (answer : Answer) (old new : Around) : Type 0 where
  pub none : HasNone old.source new.source
  pub answer_is : (session setup pieces).answer ≡ answer
  pub goes : Goes setup (accepted setup (stream pieces)) (session setup pieces).handled times [] old new

-- the session goes on
pub record GoesOn (setup : Setup) (pieces : List Piece) (times : List ℕ) (t : SessionState) (old new : Around) : Type 0 where
  pub piece : Piece
  pub used : List ℕ
  pub hands : Hands old.source piece new.source
  pub stands : Stands setup (with_next pieces piece) (times ++ used) t
  pub goes : Goes setup (accepted setup (stream pieces)) (accepted setup (stream (with_next pieces piece))) times used old new

-- no piece came, and nothing was given or answered
pub record Stays (old new : Around) : Type 0 where
  pub keeps : Keeps old.source new.source
  pub out : new.out ≡ old.out
  pub sink : new.sink ≡ old.sink
  pub readings : new.readings ≡ old.readings

-- one more piece came, and handling its messages broke off
pub record BreaksOff (setup : Setup) (pieces : List Piece) (times : List ℕ) (old new : Around) : Type 0 where
  pub piece : Piece
  pub hands : Hands old.source piece new.source
  pub room : length pieces < setup.pieces
  pub few : handle_count (with_next pieces piece) ≤ MOST_UNREAD_HANDLES
  pub goes : GoesInPart setup (accepted setup (stream pieces)) (accepted setup (stream (with_next pieces piece))) times old new

-- the same, for want of memory
pub record BreaksOffFull (setup : Setup) (pieces : List Piece) (times : List ℕ) (old new : Around) : Type 0 where
  pub breaks : BreaksOff setup pieces times old new
  pub wanted : IsWanted (reading_of setup (stream (with_next pieces breaks.piece))) breaks.goes.reached old.sink new.sink

-- what a turn answers, over a session that stands for these pieces and readings
abbrev pub Turns : Setup → List Piece → List ℕ → Result Turn Error → SessionState → Around → Around → Type 0
Turns setup pieces times (Ok turn.GoOn) t old new = GoesOn setup pieces times t old new
Turns setup pieces times (Ok turn.Disconnect) t old new = Closes setup pieces times Disconnect old new
Turns setup pieces times (Ok turn.End) t old new = Finds setup pieces times End old new
Turns setup pieces times (Err error.UnexpectedEof) t old new = Finds setup pieces times UnexpectedEof old new
Turns setup pieces times (Err error.PieceLimit) t old new = Closes setup pieces times PieceLimit old new
Turns setup pieces times (Err error.HandleLimit) t old new = Closes setup pieces times HandleLimit old new
Turns setup pieces times (Err error.IdsExhausted) t old new = Closes setup pieces times IdsExhausted old new
Turns setup pieces times (Err error.ReadFault) t old new = Stays old new
Turns setup pieces times (Err error.WriteFault) t old new = BreaksOff setup pieces times old new
Turns setup pieces times (Err error.NoMemory) t old new = Stays old new ⊎ BreaksOffFull setup pieces times old new
Turns setup pieces times (Err e) t old new = ClosesRefused setup pieces times (refusal_of e) old new

-- what the source's end means, after the connection or before it
abbrev pub at_end : Bool → Result Turn Error
at_end true = Ok turn.End
at_end false = Err error.UnexpectedEof

-- whether a turn came to the source's end
abbrev pub IsAtEnd : Result Turn Error → Type 0
IsAtEnd (Ok turn.End) = Unit {0}
IsAtEnd (Err error.UnexpectedEof) = Unit {0}
IsAtEnd r = ⊥

-- whether the session goes on after the answer
abbrev pub goes_on : Result Turn Error → Bool
goes_on (Ok turn.GoOn) = true
goes_on r = false
