-- A client and a session that play a record: what they are between its items, and what one more does.
use Rattle.std.specs.Prelude.{◌≡◌, ℕ, ◌+◌, ◌<◌, ◌≤◌, ◌⊎◌, true, false, List, [], ◌∷◌, ◌++◌, length, map, Option, Some, Result, Ok, Err}
use Rattle.ei_spec.specs.Message.{Raw, bytes_of}
use Rattle.ei_spec.specs.Piece.{Piece, stream, handle_count}
use Rattle.ei_spec.specs.Stream.{stream_of}
use Rattle.ei_types.specs.Capability.{bits_of}
use Rattle.ei_backend.specs.Backend.{BackendView}
use Rattle.ei_session.specs.Setup.{Setup, connection_id}
use Rattle.ei_session.specs.Handshake.{version}
use Rattle.ei_session.specs.Requests.{Request, framed}
use Rattle.ei_record.specs.Replayable.{disconnects, is_wrong}
use Rattle.ei_request.specs.declared.event.EisRequest.{EisRequest}
use Rattle.ei_standing.specs.Standing.{handed_as}
use Rattle.ei_serve.specs.declared.state.SessionState.{SessionState}
use Rattle.ei_serve.specs.Standing.{Stands as StandsFor}
use Rattle.ei_playing.specs.Playing.{IsBorne, played, messages}
use Rattle.ei_playing.proofs.Steps.{Played as IsPlayed}
use Rattle.ei_player.specs.Objects.{Knows}
use Rattle.ei_replay.specs.Played.{Stands}
use Rattle.ei_replay.specs.declared.player.Player.{Player}
use Rattle.ei_replay.specs.declared.error.ReplayError.{ReplayError}
use Rattle.ei_replay.specs.declared.error.ReplayError.TheVariants as replay_error

-- a client that sent its handshake, and was told of nothing
pub record HasGreeted (b : BackendView) : Type 0 where
  pub unsent_is : b.unsent ≡ stream_of (messages [])
  pub of_client : b.table.client ≡ true
  pub next_is : b.table.next_peer ≤ connection_id

-- ---- what a session took and handed out

-- the session took the messages, in so many pieces
pub record ServedAt (setup : Setup) (past : List Raw) (count : ℕ) (s : SessionState) : Type 0 where
  pub pieces : List Piece
  pub times : List ℕ
  pub stands : StandsFor setup pieces times s
  pub stream_is : stream pieces ≡ stream_of past
  pub no_handles : handle_count pieces ≡ 0
  pub count_is : length pieces ≡ count

-- the requests grew by what the messages reached give beyond those before, with some readings
pub record Extends (setup : Setup) (past reached : List Raw) (out_old out_new : List EisRequest) : Type 0 where
  pub more : List Request
  pub readings : List ℕ
  pub grown : out_new ≡ out_old ++ map (handed_as (version reached)) more
  pub framed_is : framed setup readings reached ≡ framed setup readings past ++ more

-- or by a part of that
pub record ExtendsInPart (setup : Setup) (past reached : List Raw) (out_old out_new : List EisRequest) : Type 0 where
  pub part : List Raw
  pub ahead : List Raw
  pub reached_is : reached ≡ ahead ++ part
  pub extends : Extends setup past part out_old out_new

-- the stream grew by these bytes, or not at all, and the requests by a part of what was handed out
pub record BreaksOff (setup : Setup) (past reached : List Raw) (bytes stream_old stream_new : List ℕ) (out_old out_new : List EisRequest) : Type 0 where
  pub told : (stream_new ≡ stream_old) ⊎ (stream_new ≡ stream_old ++ bytes)
  pub extends : ExtendsInPart setup past reached out_old out_new

-- ---- between two items

-- The items were played to a session that takes as many pieces as there can be: it took their messages, the client has the objects that
-- it made, and what the items come to is known.
pub record HasPlayed (setup : Setup) (before : List Request) (p : Player) : Type 0 where
  pub limit : setup.pieces ≡ 4294967295
  pub served : ServedAt setup (messages before) (length before + 1) p.session
  pub knows : Knows (messages before) p.client
  pub sums : Stands before p.played
  pub same : bits_of p.played.capabilities ≡ setup.capabilities

-- the item can come next, with this one behind it
pub record ComesNext (setup : Setup) (before : List Request) (item : Request) (next : Option Request) (p : Player) : Type 0 where
  pub so_far : HasPlayed setup before p
  pub waits : IsPlayed setup before (Some item)
  pub right : is_wrong setup before item next ≡ false
  pub borne : IsBorne item
  pub few : length before < 4294967000

-- it can behind some items, with some setup
pub record CanPlay (item : Request) (p : Player) : Type 0 where
  pub setup : Setup
  pub before : List Request
  pub next : Option Request
  pub comes : ComesNext setup before item next p

-- ---- the handshake, and one more item

-- the client sent its handshake, and the session, which takes as many pieces as there can be, took nothing yet
pub record HasBegun (setup : Setup) (p : Player) : Type 0 where
  pub limit : setup.pieces ≡ 4294967295
  pub greeted : HasGreeted p.client
  pub fresh : StandsFor setup [] [] p.session
  pub sums : Stands [] p.played
  pub same : bits_of p.played.capabilities ≡ setup.capabilities

-- it did, with some setup
pub record CanOpen (p : Player) : Type 0 where
  pub setup : Setup
  pub begun : HasBegun setup p

pub record HasOpened (setup : Setup) (p : Player) (stream_old stream_new : List ℕ) (out_old out_new : List EisRequest) : Type 0 where
  pub plays : HasPlayed setup [] p
  pub told : stream_new ≡ stream_old ++ stream_of (messages [])
  pub extends : Extends setup [] (messages []) out_old out_new

-- the handshake was played, or memory ran out
abbrev pub Opens : Setup → Result (Unit {0}) ReplayError → Player → List ℕ → List ℕ → List EisRequest → List EisRequest → Type 0
Opens setup (Ok done) p stream_old stream_new out_old out_new = HasOpened setup p stream_old stream_new out_old out_new
Opens setup (Err replay_error.NoMemory) p stream_old stream_new out_old out_new =
    BreaksOff setup [] (messages []) (stream_of (messages [])) stream_old stream_new out_old out_new
Opens setup (Err (replay_error.NotReplayable place)) p stream_old stream_new out_old out_new = ⊥

pub record HasPlayedOne (setup : Setup) (before : List Request) (item : Request) (p : Player) (stream_old stream_new : List ℕ) (out_old out_new : List EisRequest) : Type 0 where
  pub told : stream_new ≡ stream_old ++ bytes_of (played before item)
  pub extends : Extends setup (messages before) (messages (item ∷ before)) out_old out_new
  pub goes_on : disconnects item ≡ false → HasPlayed setup (item ∷ before) p

-- the item was played, too, or memory ran out
abbrev pub PlaysOne : Setup → List Request → Request → Result (Unit {0}) ReplayError → Player → List ℕ → List ℕ → List EisRequest → List EisRequest → Type 0
PlaysOne setup before item (Ok done) p stream_old stream_new out_old out_new = HasPlayedOne setup before item p stream_old stream_new out_old out_new
PlaysOne setup before item (Err replay_error.NoMemory) p stream_old stream_new out_old out_new =
    BreaksOff setup (messages before) (messages (item ∷ before)) (bytes_of (played before item)) stream_old stream_new out_old out_new
PlaysOne setup before item (Err (replay_error.NotReplayable place)) p stream_old stream_new out_old out_new = ⊥
