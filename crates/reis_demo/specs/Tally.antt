-- A session whose requests are counted as they come.
use Rattle.std.specs.Prelude.{◌≡◌, ℕ, List, [], ◌++◌, length, count_by, Option, Result}
use Rattle.ei_spec.specs.Piece.{Piece}
use Rattle.ei_session.specs.Setup.{Setup}
use Rattle.ei_types.specs.declared.error.Error.{Error}
use Rattle.ei_request.specs.declared.event.EisRequest.{EisRequest}
use Rattle.ei_serve.specs.declared.session.Ended.{Ended}
use Rattle.ei_serve.specs.Around.{Around, around}
use Rattle.ei_serve.specs.Turning.{Turns}
use Rattle.ei_serve.specs.Whole.{Serves}
use Rattle.ei_serve.specs.declared.session.Turn.{Turn}
use Rattle.ei_serve.specs.declared.state.SessionState.{SessionState}
use Rattle.reis_demo.specs.declared.tally.Tally.{Tally}
use Rattle.reis_demo.specs.Summary.{is_input_request}

-- so many requests came, and so many of them are inputs
pub record Counts (came : List EisRequest) (tally : Tally) : Type 0 where
  pub requests : tally.requests ≡ length came
  pub inputs : tally.inputs ≡ count_by is_input_request came

-- what stands around a session that handed these requests out
abbrev pub handing : List EisRequest → Around → Around
handing came a = around a.source came a.sink a.readings

-- A turn of a session did what the definitions say, behind these requests, and those that it handed out were counted too.
pub record TurnsCounted (setup : Setup) (pieces : List Piece) (times : List ℕ) (came : List EisRequest) (result : Result Turn Error) (s : SessionState) (tally : Tally) (old new : Around) : Type 0 where
  pub more : List EisRequest
  pub counts : Counts (came ++ more) tally
  pub turns : Turns setup pieces times result s (handing came old) (handing (came ++ more) new)

-- The session did what the definitions say, and the requests that it handed out were counted.
pub record ServesCounted (setup : Setup) (told : List Piece) (left : Option (List Piece)) (result : Result Ended Error) (tally : Tally) (old new : Around) : Type 0 where
  pub came : List EisRequest
  pub counts : Counts came tally
  pub serves : Serves setup told left result (handing [] old) (handing came new)
