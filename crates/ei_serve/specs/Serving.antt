-- What a whole session answers, gives and replies.
use Rattle.std.specs.Prelude.{◌≡◌, ◌≤◌, ◌<◌, ◌⊎◌, ℕ, ◌+◌, ◌-◌, true, false, List, [], ◌++◌, take, drop, length, map, Option, Some, None, IsSome, Result, Ok, Err, IfErr}
use Rattle.ei_spec.specs.Message.{Raw, bytes_of, all_bytes}
use Rattle.ei_spec.specs.Piece.{Piece, stream}
use Rattle.ei_session.specs.Setup.{Setup}
use Rattle.ei_session.specs.Requests.{slot, framed}
use Rattle.ei_session.specs.Events.{replies}
use Rattle.ei_session.specs.Served.{Answer, Disconnect, End, UnexpectedEof, IdsExhausted, PieceLimit, HandleLimit, is_over, is_waiting, read_first, accepted, session, IsValid}
use Rattle.ei_backend.specs.Outside.{SourceView, SinkView, Rose, with_more}
use Rattle.ei_backend.specs.Pieces.{TookPieces}
use Rattle.ei_session.specs.Complete.{AreComplete}
use Rattle.ei_backend.specs.Outgoing.{IsLeftOf}
use Rattle.std.specs.List.{All}
use Rattle.ei_session.specs.Replies.{greeting}
use Rattle.ei_serve.specs.Steps.{bytes_only, IsLeftOfAnswer}
use Rattle.ei_serve.specs.Wanting.{IsWanted}
use Rattle.ei_spec.specs.History.{each}
use Rattle.ei_spec.specs.Groups.{frames_made}
use Rattle.ei_standing.specs.Standing.{request_in_code}
use Rattle.ei_request.specs.declared.event.EisRequest.{EisRequest}
use Rattle.ei_types.specs.declared.error.Error.{Error}
use Rattle.ei_types.specs.declared.error.Error.TheVariants as error
use Rattle.ei_wire.specs.declared.error.ParseError.{ParseError}
use Rattle.ei_wire.specs.declared.error.ParseError.TheVariants as parse_error
use Rattle.ei_serve.specs.Refusing.{refusal_of, IsRefused}
use Rattle.ei_serve.specs.declared.session.Ended.{Ended as HowEnded}
use Rattle.ei_serve.specs.declared.session.Ended.TheVariants as ended

-- The result is the session's answer; a fault and want of memory may come in its place. Any other error is the
-- refusal that the session answers.
abbrev pub AnswersAs : Answer → Result HowEnded Error → Type 0
AnswersAs a (Ok ended.Disconnect) = a ≡ Disconnect
AnswersAs a (Ok ended.End) = a ≡ End
AnswersAs a (Err error.UnexpectedEof) = a ≡ UnexpectedEof
AnswersAs a (Err error.PieceLimit) = a ≡ PieceLimit
AnswersAs a (Err error.HandleLimit) = a ≡ HandleLimit
AnswersAs a (Err error.IdsExhausted) = a ≡ IdsExhausted
AnswersAs a (Err error.ReadFault) = Unit {0}
AnswersAs a (Err error.WriteFault) = Unit {0}
AnswersAs a (Err error.NoMemory) = Unit {0}
AnswersAs a (Err e) = IsRefused (refusal_of e) a

-- what can't be read in a request: no request takes a handle, and none names an interface
abbrev pub IsOfRequest : ParseError → Type 0
IsOfRequest parse_error.NoMemory = ⊥
IsOfRequest parse_error.NoFd = ⊥
IsOfRequest (parse_error.InvalidInterface name) = ⊥
IsOfRequest e = Unit {0}

-- an error that a session may answer
abbrev pub IsOfSession : Error → Type 0
IsOfSession error.UnexpectedEof = Unit {0}
IsOfSession error.PieceLimit = Unit {0}
IsOfSession error.HandleLimit = Unit {0}
IsOfSession error.IdsExhausted = Unit {0}
IsOfSession error.ReadFault = Unit {0}
IsOfSession error.WriteFault = Unit {0}
IsOfSession error.NoMemory = Unit {0}
IsOfSession (error.Parse e) = IsOfRequest e
IsOfSession e = IsSome (refusal_of e)

-- whether a session came to the source's end
abbrev pub IsSourceEnd : Result HowEnded Error → Type 0
IsSourceEnd (Ok ended.End) = Unit {0}
IsSourceEnd (Err error.UnexpectedEof) = Unit {0}
IsSourceEnd r = ⊥

-- the readings of a clock that told them; of one that told none, any
abbrev pub AreReadings : Option (List ℕ) → List ℕ → Type 0
AreReadings None readings = Unit {0}
AreReadings (Some told) readings = readings ≡ told

-- the requests grew by those that the messages give
pub record HandsOut (setup : Setup) (messages : List Raw) (told : Option (List ℕ)) (old new : List EisRequest) : Type 0 where
  pub readings : List ℕ
  pub told_so : AreReadings told readings
  pub grown : new ≡ old ++ map (request_in_code messages) (framed setup readings messages)

-- a clock that told its readings has those left that no made frame of the messages took
abbrev pub LeftReadings : Setup → List Raw → Option (List ℕ) → Option (List ℕ) → Type 0
LeftReadings setup messages before after = (told : List ℕ) → before ≡ Some told → after ≡ Some (drop (frames_made (each (slot setup) messages)) told)

-- or one more was taken, for a frame that wasn't handed out
pub record LeftReadingsInPart (setup : Setup) (messages : List Raw) (before after : Option (List ℕ)) : Type 0 where
  pub n : ℕ
  pub least : frames_made (each (slot setup) messages) ≤ n
  pub most : n ≤ frames_made (each (slot setup) messages) + 1
  pub left : (told : List ℕ) → before ≡ Some told → after ≡ Some (drop n told)

-- What is put is left of the greeting, or of what answers one of the messages.
abbrev pub IsLeftOfReply : Setup → List Raw → Piece → Type 0
IsLeftOfReply setup messages put = IsLeftOf (bytes_only (bytes_of greeting)) put ⊎ IsLeftOfAnswer setup [] messages put

-- where a sink told what was put to it, it was put what was left of the greeting, or of one answer, at each call
pub record PutsReply (setup : Setup) (messages : List Raw) (puts : List Piece) (new : Option (List Piece)) : Type 0 where
  pub more : List Piece
  pub grown : new ≡ Some (puts ++ more)
  pub each : All (IsLeftOfReply setup messages) more

abbrev pub PutsReplies : Setup → List Raw → Option (List Piece) → Option (List Piece) → Type 0
PutsReplies setup messages old new = (puts : List Piece) → old ≡ Some puts → PutsReply setup messages puts new

-- a sink that told what it held has the replies to the messages behind that, and each was put for itself
pub record Replied (setup : Setup) (messages : List Raw) (old new : SinkView) : Type 0 where
  pub told : (held : Piece) → old.taken ≡ Some held → new.taken ≡ Some (with_more (all_bytes (replies setup messages)) [] held)
  pub puts : PutsReplies setup messages old.puts new.puts
  pub wants : old.wants ≤ new.wants

-- or a front of them
pub record RepliedInPart (setup : Setup) (messages : List Raw) (old new : SinkView) : Type 0 where
  pub told : (held : Piece) → old.taken ≡ Some held → (n : ℕ) × (new.taken ≡ Some (with_more (take n (all_bytes (replies setup messages))) [] held))
  pub puts : PutsReplies setup messages old.puts new.puts

-- or more than them
abbrev pub RepliedAtLeast : Setup → List Raw → SinkView → SinkView → Type 0
RepliedAtLeast setup messages old new = (held : Piece) → old.taken ≡ Some held → (more : List ℕ) × (new.taken ≡ Some (with_more (all_bytes (replies setup messages) ++ more) [] held))

-- so many of the pieces told were taken, and they are a valid stream
pub record ReadValid (setup : Setup) (told : List Piece) (left : Option (List Piece)) (messages : List Raw) : Type 0 where
  pub k : ℕ
  pub took : TookPieces told left k
  pub valid : IsValid setup (stream (take k told))
  pub messages_are : accepted setup (stream (take k told)) ≡ messages

-- at a fault of the source the session was not over, and the messages of the pieces taken were handled
pub record Handled (setup : Setup) (told : List Piece) (left : Option (List Piece)) (readings readings_new : Option (List ℕ)) (out_old out_new : List EisRequest) (sink_old sink_new : SinkView) : Type 0 where
  pub k : ℕ
  pub took : TookPieces told left k
  pub goes_on : (j : ℕ) → 1 ≤ j → j ≤ k → is_over setup told j ≡ false
  pub requests : HandsOut setup (accepted setup (stream (take k told))) readings out_old out_new
  pub replies : Replied setup (accepted setup (stream (take k told))) sink_old sink_new
  pub readings_left : LeftReadings setup (accepted setup (stream (take k told))) readings readings_new

-- all pieces that were told were taken, and the session is over with none of them
pub record TookToTheEnd (setup : Setup) (told : List Piece) (left : Option (List Piece)) : Type 0 where
  pub took : TookPieces told left (length told)
  pub goes_on : (j : ℕ) → 1 ≤ j → j ≤ length told → is_over setup told j ≡ false

-- or the pieces up to the one with which the session is over
pub record TookToPiece (setup : Setup) (told : List Piece) (left : Option (List Piece)) : Type 0 where
  pub k : ℕ
  pub took : TookPieces told left k
  pub some : 1 ≤ k
  pub goes_on : (j : ℕ) → 1 ≤ j → j < k → is_over setup told j ≡ false
  pub over : is_over setup told k ≡ true

-- which pieces a session took that was decided: all of them where it came to the source's end
abbrev pub TookAllOf : Setup → List Piece → Option (List Piece) → Result HowEnded Error → Type 0
TookAllOf setup told left (Ok ended.End) = TookToTheEnd setup told left
TookAllOf setup told left (Err error.UnexpectedEof) = TookToTheEnd setup told left
TookAllOf setup told left r = TookToPiece setup told left

-- Cut short, with so many pieces taken, the first messages of the session were handled, among them all of the pieces before the
-- last; and a front of the replies to them went out, among them all those to the messages of the pieces before the last.
pub record CutShort (setup : Setup) (told : List Piece) (left : Option (List Piece)) (readings readings_new : Option (List ℕ)) (out_old out_new : List EisRequest) (sink_old sink_new : SinkView) : Type 0 where
  pub k : ℕ
  pub took : TookPieces told left k
  pub reached : List Raw
  pub ahead : (more : List Raw) × ((session setup told).handled ≡ more ++ reached)
  pub owed : 0 < k → (done : List Raw) × (reached ≡ done ++ accepted setup (stream (take (k - 1) told)))
  pub requests : HandsOut setup reached readings out_old out_new
  pub replies : RepliedInPart setup reached sink_old sink_new
  pub readings_left : LeftReadingsInPart setup reached readings readings_new
  pub replied : 0 < k → RepliedAtLeast setup (accepted setup (stream (take (k - 1) told))) sink_old sink_new

-- The same, for want of memory: where the session is over with the pieces taken, it was wanted.
pub record CutFull (setup : Setup) (told : List Piece) (left : Option (List Piece)) (readings readings_new : Option (List ℕ)) (out_old out_new : List EisRequest) (sink_old sink_new : SinkView) : Type 0 where
  pub cut : CutShort setup told left readings readings_new out_old out_new sink_old sink_new
  pub wanted : is_waiting (read_first setup told cut.k).stop ≡ false → IsWanted (read_first setup told cut.k) cut.reached sink_old sink_new

-- Over pieces that make a good end sure, with no fault of the source and none of the sink, an error is want of memory.
abbrev pub EndsWell : Setup → List Piece → SourceView → SourceView → SinkView → SinkView → Result HowEnded Error → Type 0
EndsWell setup told source_old source_new sink_old sink_new result =
    AreComplete setup told → (Rose source_old.faults source_new.faults → ⊥) → (Rose sink_old.faults sink_new.faults → ⊥) → IfErr result (λ e. e ≡ error.NoMemory)
