-- A client of a hub, which is served as if it were alone.
use Rattle.std.specs.Prelude.{◌≡◌, ℕ, List, [], ◌++◌, length, map, Option, Some, None, Result}
use Rattle.ei_spec.specs.Piece.{Piece, stream}
use Rattle.ei_spec.specs.History.{each}
use Rattle.ei_spec.specs.Groups.{frames_made}
use Rattle.ei_session.specs.Setup.{Setup}
use Rattle.ei_session.specs.Requests.{slot, framed}
use Rattle.ei_session.specs.Served.{accepted}
use Rattle.ei_backend.specs.Outside.{SourceView, SinkView}
use Rattle.ei_request.specs.declared.event.EisRequest.{EisRequest}
use Rattle.ei_standing.specs.Standing.{request_in_code}
use Rattle.ei_types.specs.declared.error.Error.{Error}
use Rattle.ei_serve.specs.declared.session.Ended.{Ended as HowEnded}
use Rattle.ei_serve.specs.declared.state.SessionState.{SessionState}
use Rattle.ei_serve.specs.Around.{Around, around, no_source}
use Rattle.ei_serve.specs.Standing.{Stands}
use Rattle.ei_serve.specs.Serving.{Replied, IsSourceEnd}
use Rattle.ei_backend.specs.Pieces.{ArePieces}
use Rattle.ei_serve.specs.Whole.{Serves}

-- What a client shows: its session; what its source and its sink say of themselves; what it asked for; and how
-- its session ended, where it did.
pub record ClientView : Type 0 where
  pub session : SessionState
  pub source : SourceView
  pub requests : List EisRequest
  pub sink : SinkView
  pub answer : Option (Result HowEnded Error)

-- what its source had given, and what its sink said of itself, when it joined
pub record Start : Type 0 where
  pub given : List Piece
  pub sink : SinkView

-- The client goes on. Since it joined its source gave these pieces, and its session used these readings: it stands for them, it
-- handed out what their messages give, and a sink that tells has the replies to them behind what it had.
pub record IsAlone (setup : Setup) (start : Start) (pieces : List Piece) (times : List ℕ) (c : ClientView) : Type 0 where
  pub goes_on : c.answer ≡ None
  pub stands : Stands setup pieces times c.session
  pub given : c.source.given ≡ start.given ++ pieces
  pub requests : c.requests ≡ map (request_in_code (accepted setup (stream pieces))) (framed setup times (accepted setup (stream pieces)))
  pub replies : Replied setup (accepted setup (stream pieces)) start.sink c.sink
  pub frames : length times ≡ frames_made (each (slot setup) (accepted setup (stream pieces)))

-- the source gave these pieces; of those that it told they are the first
pub record GaveThese (came : List Piece) (old new : SourceView) : Type 0 where
  pub gave : new.given ≡ old.given ++ came
  pub told : (told : List Piece) → old.left ≡ Some told → (rest : List Piece) × (told ≡ came ++ rest) × (new.left ≡ Some rest)

-- the client goes on, with some pieces more, and more readings, which are so
pub record GoesOnAlone (setup : Setup) (start : Start) (pieces : List Piece) (times : List ℕ) (drawn : List ℕ → Type 0) (old new : ClientView) : Type 0 where
  pub came : List Piece
  pub used : List ℕ
  pub gave : GaveThese came old.source new.source
  pub alone : IsAlone setup start (pieces ++ came) (times ++ used) new
  pub drawn_so : drawn used

-- what stood around its session when it joined, over a clock that gives it these readings
abbrev pub at_start : Start → List ℕ → Around
at_start start times = around no_source [] start.sink (Some times)

-- and what stands around it now
abbrev pub at_now : ClientView → Around
at_now c = around no_source c.requests c.sink (Some [])

-- The client has this end. With some pieces more, and more readings, which are so, it did what a session by itself does over the
-- pieces that its source gave since it joined, and those that it told.
pub record EndsAlone (setup : Setup) (start : Start) (pieces : List Piece) (times : List ℕ) (drawn : List ℕ → Type 0) (answer : Result HowEnded Error) (old new : ClientView) : Type 0 where
  pub came : List Piece
  pub used : List ℕ
  pub gave : GaveThese came old.source new.source
  pub drawn_so : drawn used
  pub serves : (told : List Piece) (left : Option (List Piece)) → ArePieces old.source new.source (IsSourceEnd answer) told left →
      Serves setup (pieces ++ told) left answer (at_start start (times ++ used)) (at_now new)

-- by its end: it goes on, or has this end
abbrev pub AnswersAlone : Setup → Start → List Piece → List ℕ → (List ℕ → Type 0) → Option (Result HowEnded Error) → ClientView → ClientView → Type 0
AnswersAlone setup start pieces times drawn None old new = GoesOnAlone setup start pieces times drawn old new
AnswersAlone setup start pieces times drawn (Some answer) old new = EndsAlone setup start pieces times drawn answer old new

-- the client that was alone for these pieces and readings goes on so, or has its end
abbrev pub TurnsAlone : Setup → Start → List Piece → List ℕ → (List ℕ → Type 0) → ClientView → ClientView → Type 0
TurnsAlone setup start pieces times drawn old new = AnswersAlone setup start pieces times drawn new.answer old new
