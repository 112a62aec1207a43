-- What a session over the lines of a text comes to.
use Rattle.std.specs.Prelude.{◌≡◌, ◌≤◌, ◌<◌, ◌-◌, ◌⊎◌, ℕ, false, List, ◌++◌, take, map, length, Option, Some, None, Result, Err}
use Rattle.std.specs.Option.{option_map}
use Rattle.ei_spec.specs.Message.{Raw, all_bytes}
use Rattle.ei_spec.specs.Piece.{Piece, stream}
use Rattle.ei_session.specs.Setup.{Setup}
use Rattle.ei_session.specs.Requests.{framed}
use Rattle.ei_session.specs.Events.{replies}
use Rattle.ei_session.specs.Served.{Answer, Disconnect, End, UnexpectedEof, session, is_over, accepted}
use Rattle.ei_standing.specs.Standing.{request_in_code}
use Rattle.ei_request.specs.declared.event.EisRequest.{EisRequest}
use Rattle.ei_serve.specs.declared.session.Ended.{Ended as HowEnded}
use Rattle.ei_serve.specs.Serving.{AnswersAs, TookAllOf, TookToTheEnd, AreReadings, LeftReadings, HandsOut, Replied, CutShort}
use Rattle.ei_backend.specs.Pieces.{TookPieces}
use Rattle.ei_types.specs.Decided.{IsDecided, IsCutShort}
use Rattle.ei_types.specs.declared.error.Error.{Error}
use Rattle.ei_types.specs.declared.error.Error.TheVariants as error
use Rattle.ei_backend.specs.declared.outside.LastAnswer.TheVariants as answers
use Rattle.ei_backend.specs.Outside.{SinkView, Rose}
use Rattle.reis_lines.specs.Input.{InputView}
use Rattle.reis_lines.specs.InputText.{ForEachText}
use Rattle.reis_lines.specs.Input.{Fetched}
use Rattle.reis_lines.specs.Taken.{GaveLines}
use Rattle.reis_run.specs.ProgramOutside.{Outside, IsTextOf, MetLineOf, InputRose, fetches_by}
use Rattle.reis_lines.specs.Text.{pieces_of, bad_line_of, number_from, AreGiven}
use Rattle.reis_run.specs.Tell.{Report}
use Rattle.reis_run.specs.declared.session.LastLine.{LastLine}
use Rattle.reis_run.specs.declared.session.LastLine.TheVariants as last_line

-- ---- how it ends

-- how a session over a text ends where nothing fails: as the session over its pieces does, or at a bad line
pub data TextEnd : Type 0 where
  Answered : (answer : Answer) → TextEnd
  BadLine : (number : ℕ) → TextEnd

-- the bad line counts only where the pieces come to their end and the session isn't over
abbrev pub end_behind : Answer → Option ℕ → TextEnd
end_behind End (Some n) = BadLine n
end_behind UnexpectedEof (Some n) = BadLine n
end_behind answer bad = Answered answer

-- the end by a text: the number of its first bad line goes from 1 up to the last value of 64 bits
abbrev pub end_of : Setup → List ℕ → TextEnd
end_of setup text = end_behind (session setup (pieces_of text)).answer (number_from 0 (bad_line_of text))

-- the last line says this end
abbrev pub EndsAs : TextEnd → LastLine → Type 0
EndsAs (Answered answer) (last_line.Answer result) = AnswersAs answer result
EndsAs (BadLine n) (last_line.BadLine m) = n ≡ m
EndsAs end last = ⊥

-- where a bad line was met the last line says so, and else what the session answered
abbrev pub last_line_of : Option ℕ → Result HowEnded Error → LastLine
last_line_of None answer = last_line.Answer answer
last_line_of (Some n) answer = last_line.BadLine n

-- an end that the text decides: a bad line, or an answer that is no fault and no want of memory
abbrev pub IsDecidedLine : LastLine → Type 0
IsDecidedLine (last_line.Answer result) = IsDecided result
IsDecidedLine (last_line.BadLine n) = Unit {0}

-- an answer of the session that the text decides
abbrev pub IsAnswered : LastLine → Type 0
IsAnswered (last_line.Answer result) = IsDecided result
IsAnswered (last_line.BadLine n) = ⊥

-- the input failed
abbrev pub IsReadFault : LastLine → Type 0
IsReadFault last = last ≡ last_line.Answer (Err error.ReadFault)

-- the last line says the bad line of this number
abbrev pub IsBadLine : ℕ → LastLine → Type 0
IsBadLine n last = last ≡ last_line.BadLine n

-- the input failed, or a bad line was met
abbrev pub TellsFault : LastLine → Type 0
TellsFault last = IsReadFault last ⊎ ((n : ℕ) × IsBadLine n last)

-- memory ran out
abbrev pub IsCutShortLine : LastLine → Type 0
IsCutShortLine (last_line.Answer result) = IsCutShort result
IsCutShortLine (last_line.BadLine n) = ⊥

-- ---- what it handles

-- At a read fault the messages of exactly the pieces of the whole lines given were handled, and the session was over with none of these.
pub record HandledGiven
    (setup : Setup) (text : List ℕ) (left readings readings_new : Option (List ℕ)) (out_old out_new : List EisRequest) (sink_old sink_new : SinkView) : Type 0 where
  pub pieces : List Piece
  pub given : AreGiven text left pieces
  pub first : (more : List Piece) × (pieces_of text ≡ pieces ++ more)
  pub goes_on : (j : ℕ) → 1 ≤ j → j ≤ length pieces → is_over setup (pieces_of text) j ≡ false
  pub requests : HandsOut setup (accepted setup (stream pieces)) readings out_old out_new
  pub replies : Replied setup (accepted setup (stream pieces)) sink_old sink_new
  pub readings_left : LeftReadings setup (accepted setup (stream pieces)) readings readings_new

-- the pieces that an input's text has left behind these bytes
abbrev pub pieces_left : List ℕ → Option (List ℕ) → Option (List Piece)
pieces_left unread left = option_map (λ t. pieces_of (unread ++ t)) left

-- which pieces a session over these took that ended so: all of them where a bad line follows
abbrev pub TookAllAs : Setup → List Piece → LastLine → Option (List Piece) → Type 0
TookAllAs setup told (last_line.Answer result) left = TookAllOf setup told left result
TookAllAs setup told (last_line.BadLine n) left = TookToTheEnd setup told left

-- What was taken of a text. The bytes that the input gave in these answers are the lines of the pieces that were taken, which are the
-- first of the text, and behind them bytes that wait; of the pieces left, with these bytes, this is so.
pub record TookLines (text : List ℕ) (fetches : List Fetched) (left : Option (List ℕ)) (Took : Option (List Piece) → Type 0) : Type 0 where
  pub pieces : List Piece
  pub waiting : List ℕ
  pub gave : GaveLines fetches pieces waiting
  pub more : List Piece
  pub first : pieces_of text ≡ pieces ++ more
  pub left_is : pieces_left waiting left ≡ Some more
  pub took : Took (pieces_left waiting left)

-- what a session hands out, where it replies, and the readings that its clock has left
pub record Beside : Type 0 where
  pub out : List EisRequest
  pub sink : SinkView
  pub readings : Option (List ℕ)

abbrev pub beside : List EisRequest → SinkView → Option (List ℕ) → Beside
beside out sink readings = record { out = out; sink = sink; readings = readings }

-- The session over the lines of a text, of which this is left: how it ended, what it handed out and replied, which readings it took,
-- and which lines. Where the input failed it is the session over the lines given, and where it was cut short a front of it.
pub record ServesText
    (setup : Setup) (fetches : List Fetched) (text : List ℕ) (left : Option (List ℕ)) (last : LastLine) (old new : Beside) : Type 0 where
  pub ends : IsDecidedLine last → EndsAs (end_of setup text) last
  pub requests : IsDecidedLine last → HandsOut setup (session setup (pieces_of text)).handled old.readings old.out new.out
  pub replies : IsDecidedLine last → Replied setup (session setup (pieces_of text)).handled old.sink new.sink
  pub readings : IsAnswered last → LeftReadings setup (session setup (pieces_of text)).handled old.readings new.readings
  pub given : IsReadFault last → HandledGiven setup text left old.readings new.readings old.out new.out old.sink new.sink
  pub cut_short : IsCutShortLine last → TookLines text fetches left (λ pieces.
      CutShort setup (pieces_of text) pieces old.readings new.readings old.out new.out old.sink new.sink)
  pub taken : IsDecidedLine last → TookLines text fetches left (TookAllAs setup (pieces_of text) last)

-- the input counted a fault, and answered it last
pub record FailedLast {I : Type 0} (view : I → InputView) (old new : I) : Type 0 where
  pub fault : Rose (view old).faults (view new).faults
  pub last : (view new).last ≡ answers.Fault

-- ---- what is reported

-- these requests are those that the messages give, with the readings that the clock told
pub record AreRequests (setup : Setup) (messages : List Raw) (told : Option (List ℕ)) (requests : List EisRequest) : Type 0 where
  pub readings : List ℕ
  pub told_so : AreReadings told readings
  pub framed_is : requests ≡ map (request_in_code messages) (framed setup readings messages)

-- the bytes of the replies to messages
abbrev pub reply_bytes : Setup → List Raw → List ℕ
reply_bytes setup messages = all_bytes (replies setup messages)

-- the reply bytes and the requests are those of the messages
pub record IsOf (setup : Setup) (messages : List Raw) (readings : Option (List ℕ)) (report : Report) : Type 0 where
  pub reply_is : report.reply ≡ reply_bytes setup messages
  pub requests_are : AreRequests setup messages readings report.requests

-- They are those of the pieces of the whole lines given, and the session was over with none of these.
pub record IsOfGiven (setup : Setup) (text : List ℕ) (left readings : Option (List ℕ)) (report : Report) : Type 0 where
  pub pieces : List Piece
  pub given : AreGiven text left pieces
  pub first : (more : List Piece) × (pieces_of text ≡ pieces ++ more)
  pub goes_on : (j : ℕ) → 1 ≤ j → j ≤ length pieces → is_over setup (pieces_of text) j ≡ false
  pub is_of : IsOf setup (accepted setup (stream pieces)) readings report

-- They are the requests of the first of the session's messages, and a front of the replies to these. So many pieces were taken, and
-- the messages of the pieces before the last are among them, and their replies in the front.
pub record IsOfFirst (setup : Setup) (pieces : List Piece) (readings : Option (List ℕ)) (report : Report) (left : Option (List Piece)) : Type 0 where
  pub k : ℕ
  pub took : TookPieces pieces left k
  pub reached : List Raw
  pub ahead : (more : List Raw) × ((session setup pieces).handled ≡ more ++ reached)
  pub owed : 0 < k → (done : List Raw) × (reached ≡ done ++ accepted setup (stream (take (k - 1) pieces)))
  pub reply_is : (n : ℕ) × (report.reply ≡ take n (reply_bytes setup reached))
  pub replied : 0 < k → (more : List ℕ) × (report.reply ≡ reply_bytes setup (accepted setup (stream (take (k - 1) pieces))) ++ more)
  pub requests_are : AreRequests setup reached readings report.requests

-- The report is that of the session over each text of an input: one that it told, or the bytes that it gave with any behind them.
-- Where the input failed it is that of the lines given, and where memory ran out that of the first messages. The input was asked only
-- where no line was there behind the first of those that the session took, and not behind its end; at a bad line it was asked until
-- that line was there, and no more. A read fault is reported only where the input failed, last of all, and a bad line only where one
-- was met; and one of them is wherever the input's count of faults rose.
pub record IsReport (setup : Setup) (before after : Outside) (report : Report) : Type 0 where
  pub ends : ForEachText (IsTextOf before after) (λ text left. IsDecidedLine report.last → EndsAs (end_of setup text) report.last)
  pub decided : ForEachText (IsTextOf before after) (λ text left.
      IsDecidedLine report.last → IsOf setup (session setup (pieces_of text)).handled before.readings report)
  pub clock : ForEachText (IsTextOf before after) (λ text left.
      IsAnswered report.last → LeftReadings setup (session setup (pieces_of text)).handled before.readings after.readings)
  pub taken : ForEachText (IsTextOf before after) (λ text left.
      IsDecidedLine report.last → TookLines text (fetches_by before after) left (TookAllAs setup (pieces_of text) report.last))
  pub given : ForEachText (IsTextOf before after) (λ text left. IsReadFault report.last → IsOfGiven setup text left before.readings report)
  pub cut_short : ForEachText (IsTextOf before after) (λ text left.
      IsCutShortLine report.last → TookLines text (fetches_by before after) left (IsOfFirst setup (pieces_of text) before.readings report))
  pub fault : IsReadFault report.last → InputRose before after
  pub fault_last : IsReadFault report.last → after.input.last ≡ answers.Fault
  pub risen : before.input.faults < after.input.faults → TellsFault report.last
  pub bad_line : (n : ℕ) → IsBadLine n report.last → MetLineOf before after n

-- ---- the status

-- 0 where the session came to its end: the client disconnected, or the pieces ended behind the handshake; else 1
abbrev pub status_of_answer : Answer → ℕ
status_of_answer End = 0
status_of_answer Disconnect = 0
status_of_answer answer = 1

-- the status of how a session over a text ends, where nothing fails
abbrev pub status_of_end : TextEnd → ℕ
status_of_end (Answered answer) = status_of_answer answer
status_of_end (BadLine n) = 3

-- the status, or 3 where the input failed, or 4 or 5
abbrev pub IsStatus : ℕ → Type 0 → ℕ → Type 0
IsStatus status failed result = (result ≡ status) ⊎ (((result ≡ 3) × failed) ⊎ ((result ≡ 4) ⊎ (result ≡ 5)))

-- status 3 only where the input failed, or a bad line was met
abbrev pub HasReadCause : ℕ → Type 0 → (ℕ → Type 0) → Type 0
HasReadCause result failed met = result ≡ 3 → failed ⊎ ((n : ℕ) × met n)
