-- What a server stands for.
use Rattle.std.specs.Prelude.{◌≡◌, ℕ, ◌==◌, ◌||◌, nat_lt, Bool, List, [], ◌∷◌, ◌++◌, length, take, drop, map, Option, Some, None, is_some, Result, Ok, Err}
use Rattle.std.specs.Prelude.{if◌then◌else◌}
use Rattle.ei_spec.specs.Message.{Raw, all_bytes}
use Rattle.ei_spec.specs.Piece.{Piece}
use Rattle.ei_session.specs.Setup.{Setup}
use Rattle.ei_session.specs.Requests.{framed}
use Rattle.ei_session.specs.Events.{replies}
use Rattle.ei_session.specs.Served.{session}
use Rattle.ei_backend.specs.Outside.{with_more}
use Rattle.ei_request.specs.Connection.{ConnectionView}
use Rattle.ei_request.specs.declared.event.EisRequest.{EisRequest}
use Rattle.ei_standing.specs.Standing.{request_in_code}
use Rattle.ei_types.specs.declared.error.Error.{Error}
use Rattle.ei_types.specs.declared.error.Error.TheVariants as error
use Rattle.ei_serve.specs.declared.session.Ended.{Ended}
use Rattle.ei_serve.specs.declared.session.Ended.TheVariants as ended
use Rattle.ei_serve.specs.Serving.{AnswersAs, IsSourceEnd}
use Rattle.ei_types.specs.Decided.{IsDecided}
use Rattle.ei_serve.specs.Standing.{Stands, connection_of}
use Rattle.ei_spec.specs.declared.limits.TheConstants.{MOST_PIECE_BYTES, MOST_PIECE_HANDLES}
use Rattle.reis_server.specs.declared.server.CallError.{CallError}
use Rattle.reis_server.specs.declared.server.CallError.TheVariants as call_error
use Rattle.reis_server.specs.Fed.{Fed, pieces_of, handled, frames, readings_of}
use Rattle.reis_server.specs.View.{ServerView}

-- the requests of these messages, as the code hands them out
abbrev pub requests_of : Setup → List Fed → List Raw → List EisRequest
requests_of setup fed messages = map (request_in_code messages) (framed setup (readings_of setup fed) messages)

-- these bytes, and no handle
abbrev pub bytes_alone : List ℕ → Piece
bytes_alone bytes = record { bytes = bytes; handles = [] }

-- all the replies: those that were taken, and behind them those that weren't
abbrev pub with_unsent : Piece → ServerView → Piece
with_unsent sent s = with_more s.unsent.bytes s.unsent.handles sent

-- All that the messages handled give and are answered by was taken or waits, in this order; and as many readings were used as
-- frames were made.
pub record GaveAll (setup : Setup) (fed : List Fed) (sent : Piece) (given : List EisRequest) (s : ServerView) : Type 0 where
  pub requests : given ++ s.requests ≡ requests_of setup fed (handled setup fed)
  pub replies : with_unsent sent s ≡ bytes_alone (all_bytes (replies setup (handled setup fed)))
  pub readings : length (readings_of setup fed) ≡ frames setup (handled setup fed)

-- the session goes on: it stands for the pieces that were fed
pub record GoesOn (setup : Setup) (fed : List Fed) (sent : Piece) (given : List EisRequest) (s : ServerView) : Type 0 where
  pub stands : Stands setup (pieces_of fed) (readings_of setup fed) s.session
  pub gave : GaveAll setup fed sent given s

-- it ended as the session over these pieces does
pub record HasEnded (setup : Setup) (fed : List Fed) (answer : Result Ended Error) (sent : Piece) (given : List EisRequest) (s : ServerView) : Type 0 where
  pub answers : AnswersAs (session setup (pieces_of fed)).answer answer
  pub decided : IsDecided answer
  pub gave : GaveAll setup fed sent given s

-- Memory ran out: the first messages of the session were handled, among them all of the pieces before the last, with what they
-- give; and a front of their replies was taken or waits, among them all those to the messages of the pieces before the last.
pub record RanOut (setup : Setup) (fed : List Fed) (sent : Piece) (given : List EisRequest) (s : ServerView) : Type 0 where
  pub reached : List Raw
  pub ahead : (more : List Raw) × (handled setup fed ≡ more ++ reached)
  pub owed : (done : List Raw) × (reached ≡ done ++ handled setup (drop 1 fed))
  pub requests : given ++ s.requests ≡ requests_of setup fed reached
  pub replied : (more : List ℕ) × (with_unsent sent s ≡ bytes_alone (all_bytes (replies setup (handled setup (drop 1 fed))) ++ more))
  pub replies : (n : ℕ) × (with_unsent sent s ≡ bytes_alone (take n (all_bytes (replies setup reached))))

-- what stands where the session ended so, or didn't end
abbrev pub StandsWith : Setup → List Fed → Option (Result Ended Error) → Piece → List EisRequest → ServerView → Type 0
StandsWith setup fed None sent given s = GoesOn setup fed sent given s
StandsWith setup fed (Some (Err error.NoMemory)) sent given s = RanOut setup fed sent given s
StandsWith setup fed (Some answer) sent given s = HasEnded setup fed answer sent given s

-- The server was started with the setup and fed these pieces, of its replies these were taken, and these of its requests.
abbrev pub IsServing : Setup → List Fed → Piece → List EisRequest → ServerView → Type 0
IsServing setup fed sent given s = StandsWith setup fed s.answer sent given s

-- nothing was taken
abbrev pub nothing : Piece
nothing = bytes_alone []

-- it stands for some history
pub record HasServed (s : ServerView) : Type 0 where
  pub setup : Setup
  pub fed : List Fed
  pub sent : Piece
  pub given : List EisRequest
  pub serving : IsServing setup fed sent given s

-- ---- calls

-- the connection, where it stands
abbrev pub connection_of_server : ServerView → Option ConnectionView
connection_of_server s = if is_some s.answer then None else connection_of s.session

-- whether a piece of so many bytes and handles is taken, and else why not
abbrev pub feed_answer : Bool → ℕ → ℕ → Result Unit CallError
feed_answer over bytes handles =
    if over then Err call_error.Over
    else (if bytes == 0 then Err call_error.Empty
    else (if nat_lt MOST_PIECE_BYTES bytes then Err call_error.TooLong
    else (if nat_lt MOST_PIECE_HANDLES handles then Err call_error.TooManyHandles
    else Ok tt)))

-- whether the end of the input is taken
abbrev pub end_answer : Bool → Result Unit CallError
end_answer over = if over then Err call_error.Over else Ok tt

-- whether so many bytes and handles wait
abbrev pub sent_answer : ℕ → ℕ → Piece → Result Unit CallError
sent_answer bytes handles unsent =
    if nat_lt (length unsent.bytes) bytes || nat_lt (length unsent.handles) handles then Err call_error.NotUnsent else Ok tt

-- what waits where so many bytes and handles wait no more
abbrev pub unsent_after : ℕ → ℕ → Piece → Piece
unsent_after bytes handles unsent = record { bytes = drop bytes unsent.bytes; handles = drop handles unsent.handles }

-- the session ended at the end of the input, or memory ran out
abbrev pub IsInputEnd : Option (Result Ended Error) → Type 0
IsInputEnd (Some (Ok ended.End)) = Unit {0}
IsInputEnd (Some (Err error.UnexpectedEof)) = Unit {0}
IsInputEnd (Some (Err error.NoMemory)) = Unit {0}
IsInputEnd answer = ⊥

-- it didn't end at the end of the input
abbrev pub IsNoInputEnd : Option (Result Ended Error) → Type 0
IsNoInputEnd None = Unit {0}
IsNoInputEnd (Some answer) = IsSourceEnd answer → ⊥

-- it stands for the piece that was lent too, where one was
abbrev pub TakesLent : Setup → List Fed → Piece → List EisRequest → List Piece → ℕ → ServerView → Type 0
TakesLent setup fed sent given [] time s = IsServing setup fed sent given s
TakesLent setup fed sent given (piece ∷ pieces) time s = IsServing setup (record { piece = piece; time = time } ∷ fed) sent given s

-- and it ends at the end of the input exactly where none was
abbrev pub EndsLent : List Piece → Option (Result Ended Error) → Type 0
EndsLent [] answer = IsInputEnd answer
EndsLent (piece ∷ pieces) answer = IsNoInputEnd answer
