-- What a record that is played back comes to.
use Rattle.std.specs.Prelude.{◌≡◌, ◌⊎◌, ◌≤◌, ℕ, List, ◌++◌, length, map, Some, None, Result, Ok, Err}
use Rattle.std.specs.List.{All}
use Rattle.ei_session.specs.Setup.{Setup}
use Rattle.ei_session.specs.Requests.{Request}
use Rattle.ei_request.specs.declared.event.EisRequest.{EisRequest}
use Rattle.ei_record.specs.Replayable.{first_wrong, IsReplayable}
use Rattle.ei_playing.specs.Playing.{IsBorne}
use Rattle.ei_playing.specs.Whole.{Plays}
use Rattle.ei_replay.specs.Asked.{asked_of}
use Rattle.ei_replay.specs.Sending.{of_most_pieces}
use Rattle.ei_replay.specs.Player.{HasBegun}
use Rattle.ei_replay.specs.declared.player.Player.{Player}
use Rattle.ei_replay.specs.declared.error.ReplayError.{ReplayError}
use Rattle.ei_replay.specs.declared.error.ReplayError.TheVariants as replay_error

-- the requests grew by some that ask this
pub record Grew (asked : List Request) (old new : List EisRequest) : Type 0 where
  pub more : List EisRequest
  pub grown : new ≡ old ++ more
  pub asks : map asked_of more ≡ asked

-- The requests grew by the items, and the stream by bytes that are the messages accepted of them and that give the items.
pub record PlayedBack (setup : Setup) (items : List Request) (stream_old stream_new : List ℕ) (out_old out_new : List EisRequest) : Type 0 where
  pub bytes : List ℕ
  pub stream_is : stream_new ≡ stream_old ++ bytes
  pub plays : Plays setup bytes items
  pub out_is : Grew items out_old out_new

-- The requests grew by a front of the items, and the stream by a front of such bytes.
pub record PlayedInPart (setup : Setup) (items : List Request) (stream_old stream_new : List ℕ) (out_old out_new : List EisRequest) : Type 0 where
  pub bytes : List ℕ
  pub bytes_left : List ℕ
  pub stream_is : stream_new ≡ stream_old ++ bytes
  pub plays : Plays setup (bytes ++ bytes_left) items
  pub asked : List Request
  pub items_left : List Request
  pub out_is : Grew asked out_old out_new
  pub items_are : items ≡ asked ++ items_left

-- Where an item is wrong, nothing is played, and the first such is told; else all is played, or a part of it where memory runs out.
abbrev pub Replays : Setup → List Request → Result (Unit {0}) ReplayError → List ℕ → List ℕ → List EisRequest → List EisRequest → Type 0
Replays setup items (Ok done) stream_old stream_new out_old out_new =
    (first_wrong setup items ≡ None) × PlayedBack setup items stream_old stream_new out_old out_new
Replays setup items (Err (replay_error.NotReplayable place)) stream_old stream_new out_old out_new =
    (first_wrong setup items ≡ Some place) × (stream_new ≡ stream_old) × (out_new ≡ out_old)
Replays setup items (Err replay_error.NoMemory) stream_old stream_new out_old out_new =
    ((stream_new ≡ stream_old) × (out_new ≡ out_old))
    ⊎ ((first_wrong setup items ≡ None) × PlayedInPart setup items stream_old stream_new out_old out_new)

-- ---- before the first item

-- the items can be played, by messages that can bear them, to a session that took nothing yet
pub record IsReady (setup : Setup) (items : List Request) (p : Player) : Type 0 where
  pub right : IsReplayable setup items
  pub borne : All IsBorne items
  pub few : length items ≤ 4294967000
  pub begun : HasBegun (of_most_pieces setup) p

-- they can, with some setup
pub record CanPlayAll (items : List Request) (p : Player) : Type 0 where
  pub setup : Setup
  pub ready : IsReady setup items p
